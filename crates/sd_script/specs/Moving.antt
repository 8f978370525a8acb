-- What a move is answered by: the node is moved, and the answer says whether it inherits otherwise at its new place.
use Rattle.std.specs.Prelude.{◌≡◌, ℕ, Bool, true, false, List, [], ◌∷◌, Some, codes}
use Rattle.std.specs.Bool.{Decides}
use Rattle.sd_acl.specs.declared.ace.Ace.{Ace}
use Rattle.sd_path.specs.Names.{Names}
use Rattle.sd_edit.specs.Machine.{Machine}
use Rattle.sd_edit.specs.declared.request.Reply.{Reply}
use Rattle.sd_edit.specs.declared.request.Reply.TheVariants.{Edited}
use Rattle.sd_line.specs.Line.{LineOf}
use Rattle.sd_script.specs.Importing.{entries_at}
use Rattle.sd_script.specs.Reply.{alone, ok_line, reply_line}

abbrev pub moved_words : (is_kept : Bool) → List (List ℕ)
moved_words true = []
moved_words false = codes "reinherited" ∷ []

-- by the entries that the node had before. Its own are kept, and so is all that the nodes below it have of their own;
-- the node's are those in the tree of all accepted edits
abbrev pub IsMoved : List Ace → Machine → Names → Reply → List LineOf → Type 0
IsMoved before m target Edited answer =
    (is_kept : Bool) × Decides is_kept (entries_at m target ≡ before)
    × (answer ≡ ok_line (moved_words is_kept) ∷ [])
IsMoved before m target reply answer = alone (reply_line reply) ≡ Some answer
