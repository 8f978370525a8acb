-- Why a tree wasn't opened or changed, and why nothing of a node is written.
use Rattle.sd_c.proofs.Cited.{EditRefusal, IsError, IsSome, IsTreeReason, None, Option, Some, TreeError, option_map, refl, tree_reason}

-- an error of a tree, as the reason that it is
pub told_reason : (e : TreeError) (due : Option EditRefusal) → IsError e due → IsTreeReason due (tree_reason e)
told_reason e due is = (e, is, refl)

-- what is made of a node is there where the node is
pub there_too : {A B : Type 0} (f : A → B) (o : Option A) → IsSome o → IsSome (option_map f o)
there_too f (Some x) is = refl
there_too f None is = is
