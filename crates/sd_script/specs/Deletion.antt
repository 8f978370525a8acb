-- What `delete` answers: whether a user may delete a node, as NTFS judges it ([MS-FSA] 2.1.5.1.2.1): who is granted
-- DELETE on the node, or FILE_DELETE_CHILD on its parent.
use Rattle.std.specs.Prelude.{ℕ, Bool, false, ◌||◌, nat_lt, List, [], ◌∷◌, length, Option, Some, None}
use Rattle.std.specs.Prelude.{if◌then◌else◌, codes}
use Rattle.std.specs.Option.{option_map_or}
use Rattle.sd_check.specs.Token.{TokenValue}
use Rattle.sd_edit.specs.Answers.{answer}
use Rattle.sd_path.specs.Names.{Names, is_root, up}
use Rattle.sd_edit.specs.declared.edit.Edit.{Edit}
use Rattle.sd_edit.specs.declared.opening.Opening.{Opening}
use Rattle.sd_edit.specs.declared.reply.CheckReply.{CheckReply}
use Rattle.sd_edit.specs.declared.reply.CheckReply.TheVariants.{Verdict, NoNode}
use Rattle.sd_answer.specs.declared.forms.TheConstants.{DENIED_ALL, GRANTED_BY, NO_NODE}
use Rattle.sd_line.specs.Line.{LineOf, form, line_of}
use Rattle.sd_line.specs.declared.line.Value.TheVariants.{Text}
use Rattle.sd_script.specs.Listing.{grants}
use Rattle.sd_script.specs.Reply.{plain_line}

-- DELETE ([MS-DTYP] 2.4.3)
abbrev pub delete_right : ℕ
delete_right = 0x10000

-- FILE_DELETE_CHILD (winnt.h)
abbrev pub delete_child_right : ℕ
delete_child_right = 0x40

-- the parent's path. The root has none; a path has at most 128 names
abbrev pub parent_of : Names → Option Names
parent_of path = if is_root path || nat_lt 128 (length path) then None else Some (up path)

-- the parent grants the token to delete what is in it
abbrev pub parent_grants : Opening → List Edit → Names → TokenValue → Bool
parent_grants opening journal path token =
    option_map_or (λ (parent : Names). grants (answer opening journal parent token delete_child_right))
    (parent_of path) false

abbrev pub granted_by : List ℕ → LineOf
granted_by whom = line_of (form GRANTED_BY) (Text whom ∷ [])

-- by a check of the node for DELETE: which descriptor grants the deletion, the node's own first
abbrev pub deletion_line : CheckReply → Bool → LineOf
deletion_line NoNode by_parent = plain_line (form NO_NODE)
deletion_line (Verdict verdict) by_parent =
    if grants (Verdict verdict) then granted_by (codes "node")
    else if by_parent then granted_by (codes "parent")
    else plain_line (form DENIED_ALL)
