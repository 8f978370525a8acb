-- The value stands at the option's place.
use Rattle.std.proofs.Common.{ℕ, List, Option, ap}
use Rattle.std.proofs.lemmas.List.{map-set}
use Rattle.sd_arguments.specs.Options.{OptionsValue, options_of}
use Rattle.sd_arguments.proofs.options.Options.with_value.Goals as goal

beside_types : List (List ℕ) → List (Option (List ℕ)) → OptionsValue
beside_types types values = record { values = values; types = types }

pub returns : goal.returns
unfolding beside_types
returns c = rw c.place.ensures.is (ap (beside_types (options_of c.args.self).types) (map-set _ _ _ _))
