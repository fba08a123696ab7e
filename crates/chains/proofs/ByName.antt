-- What the tables by name say of a name that the directory reaches.
use Prim.Native.Nat.{ℕ, ◌<◌}
use mathlib.Core.Path.{◌≡◌}
use mathlib.Core.List.{List}
use lib.ListN.{get_or}
use Rattle.chains.specs.DirectoryWord.{start_in, slot_in, declared_in, starts_in, slots_in, declarations_in}
use Rattle.chains.proofs.FillLaws.{whole_at}

pub starts_by : (dir : List ℕ) (m : ℕ) → m < 4096 → get_or (starts_in dir) m 0 ≡ start_in dir m
unfolding starts_in
starts_by dir m h = whole_at (start_in dir) 4096 m h

pub slots_by : (dir : List ℕ) (m : ℕ) → m < 4096 → get_or (slots_in dir) m 0 ≡ slot_in dir m
unfolding slots_in
slots_by dir m h = whole_at (slot_in dir) 4096 m h

pub declarations_by : (dir : List ℕ) (m : ℕ) → m < 4096 → get_or (declarations_in dir) m 0 ≡ declared_in dir m
unfolding declarations_in
declarations_by dir m h = whole_at (declared_in dir) 4096 m h
