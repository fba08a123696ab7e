-- The worked cases of what relations with paths lean on hold, by computing the definitions.
use mathlib.Core.Path.{refl}
use Rattle.definitions.specs.Chain.{walk, own}
use Rattle.definitions.specs.Kinds.{find, kind_step, kinds_of}
use Rattle.definitions.specs.Lean.{leads_within, edges, leans}
use Rattle.theorems.specs.LeanCases.{LeansWorked}

pub worked : LeansWorked
unfolding walk own find kind_step kinds_of leads_within edges leans
worked =
    record {
      a_step = refl;
      a_source_beside_a_path = refl;
      an_undeclared_step = refl;
      the_second_step = refl;
      not_back = refl;
      not_itself = refl;
      undeclared_on_nothing = refl;
      round_the_ring = refl;
      into_the_ring = refl;
      not_out_of_it = refl;
      settled_and_leaning = refl;
      no_kinds_through_it = refl;
    }
