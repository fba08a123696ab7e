-- By which numbers Resolve refuses, at which places and with which names.
use Rattle.std.specs.Prelude.{Err}
use Rattle.std.specs.Prelude.{ℕ, ◌<◌, ◌≡◌, List, length}
use Rattle.definitions.specs.declared.answer.Refusal.{Refusal}
use Rattle.definitions.specs.Records.{Pack}
use Rattle.definitions.specs.Pack.{yes, read}
use Rattle.definitions.specs.Answers.{out_of_room}
use Rattle.definitions.specs.Checking.{CheckRefuses}
use Rattle.definitions.specs.ResolvingTrees.{InRange}

-- a refusal of a checked pack: its place is a word's, its name and other are names of the pack
pub record WithinPack (ws : List ℕ) (r : Refusal) : Type 0 where
  pub pack : Pack
  pub reads : read ws ≡ yes pack
  pub place : r.place < length ws
  pub name : r.name < pack.names
  pub other : r.other < pack.names

-- "Check's refusals, then 9 ..; 10 ..; 11 to 15. Then 16"
pub data ResolveRefuses (ws : List ℕ) (r : Refusal) : Type 0 where
  checks : CheckRefuses ws r → ResolveRefuses ws r
  equal-kinds : r.number ≡ 9 → WithinPack ws r → ResolveRefuses ws r
  open_direction : InRange r.number → WithinPack ws r → ResolveRefuses ws r
  no_room : Err r ≡ out_of_room → ResolveRefuses ws r
