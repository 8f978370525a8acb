-- Lines of the nodes at and below a path, in the order of their paths: what `list` and `find` answer by the published
-- tree.
use Rattle.std.specs.Prelude.{Bool, true, false, ◌&&◌, List, [], ◌∷◌, ◌++◌, Option, Some, None, is_none}
use Rattle.std.specs.Prelude.{if◌then◌else◌, codes}
use Rattle.std.specs.List.{flat_map, list_any}
use Rattle.std.specs.FinMap.{entries}
use Rattle.sd_sid.specs.Mapping.{MappingValue}
use Rattle.sd_acl.specs.Descriptor.{DescriptorValue}
use Rattle.sd_path.specs.Names.{Names, is_within}
use Rattle.sd_edit.specs.Plain.{PlainTree}
use Rattle.sd_check.specs.declared.verdict.Verdict.TheVariants.{Granted}
use Rattle.sd_edit.specs.Answers.{descriptor_at, kind_at, reply_in}
use Rattle.sd_edit.specs.Journal.{replay}
use Rattle.sd_edit.specs.declared.edit.Edit.{Edit}
use Rattle.sd_inheritance.specs.declared.kind.NodeKind.{NodeKind}
use Rattle.sd_inheritance.specs.declared.kind.NodeKind.TheVariants.{Container, Object}
use Rattle.sd_edit.specs.declared.node.NodeRow.{NodeRow}
use Rattle.sd_edit.specs.declared.opening.Opening.{Opening}
use Rattle.sd_edit.specs.declared.reply.CheckReply.{CheckReply}
use Rattle.sd_edit.specs.declared.reply.CheckReply.TheVariants.{Verdict}
use Rattle.sd_answer.specs.VerdictLines.{fault_line}
use Rattle.sd_answer.specs.declared.forms.TheConstants.{CONTAINER, OBJECT}
use Rattle.sd_line.specs.Line.{Form, LineOf, form, line_of, text_line}
use Rattle.sd_line.specs.declared.line.Value.TheVariants.{Descriptor, Text}
use Rattle.sd_script.specs.Paths.{is_split, path_word}
use Rattle.sd_script.specs.declared.listing.NodeFilter.{NodeFilter}
use Rattle.sd_script.specs.declared.listing.NodeFilter.TheVariants.{All, Granting}
use Rattle.sd_script.specs.declared.paths.PathSpelling.{PathSpelling}
use Rattle.sd_script.specs.declared.paths.PathSpelling.TheVariants.{Plain, Percent}

abbrev pub kind_form : NodeKind → Form
kind_form Container = form CONTAINER
kind_form Object = form OBJECT

-- a node with its whole descriptor
abbrev pub node_lines : PathSpelling → NodeKind → Names → Option DescriptorValue → List LineOf
node_lines paths kind path None = []
node_lines paths kind path (Some d) =
    line_of (kind_form kind) (Text (path_word paths path) ∷ Descriptor d ∷ []) ∷ []

-- a check is granted
abbrev pub grants : CheckReply → Bool
grants (Verdict (Granted mask)) = true
grants reply = false

-- a node's line: of all nodes that with the descriptor; or of those whose check grants what is asked the path
abbrev pub lines_at : PathSpelling → MappingValue → PlainTree → NodeFilter → Names × NodeRow → List LineOf
lines_at paths g t All node = node_lines paths node.1.kind node.0 (descriptor_at g t node.0)
lines_at paths g t (Granting token asked) node =
    if grants (reply_in g t node.0 token asked) then text_line (path_word paths node.0) ∷ [] else []

abbrev pub lines_below : PathSpelling → MappingValue → PlainTree → Names → NodeFilter → Names × NodeRow → List LineOf
lines_below paths g t top which node = if is_within top node.0 then lines_at paths g t which node else []

-- the node stands at or below the path, and its own path would be more than one word
abbrev pub is_split_below : Names → Names × NodeRow → Bool
is_split_below top node = is_within top node.0 && is_split node.0

-- some path can't be printed
abbrev pub lacks_words : PathSpelling → PlainTree → Names → Bool
lacks_words Plain t top = list_any (is_split_below top) (entries t)
lacks_words Percent t top = false

-- the lines of the nodes at and below a path
abbrev pub nodes_below : PathSpelling → Opening → List Edit → Names → NodeFilter → List LineOf
nodes_below paths opening journal top which =
    let t = replay opening journal in flat_map (lines_below paths opening.mapping t top which) (entries t)

-- lines of nodes after a title; or one line where no node is at the path, or where a path can't be printed
abbrev pub nodes_lines : PathSpelling → Opening → List Edit → Names → NodeFilter → LineOf → List LineOf → List LineOf
nodes_lines paths opening journal top which no_node title =
    let t = replay opening journal in
    if is_none (kind_at t top) then no_node ∷ []
    else if lacks_words paths t top then fault_line (codes "name") ∷ []
    else title ++ nodes_below paths opening journal top which
