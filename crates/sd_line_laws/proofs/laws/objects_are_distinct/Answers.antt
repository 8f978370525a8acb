use Rattle.sd_line_laws.proofs.Objects.{same_texts, same_values, with_and_without_a_kind}
use Rattle.sd_line_laws.proofs.laws.objects_are_distinct.Goals as goal

pub returns-clause-values : goal.returns-clause-values
returns-clause-values c = same_values

pub returns-clause-texts : goal.returns-clause-texts
returns-clause-texts c = same_texts

pub returns-clause-kind : goal.returns-clause-kind
returns-clause-kind c = with_and_without_a_kind
