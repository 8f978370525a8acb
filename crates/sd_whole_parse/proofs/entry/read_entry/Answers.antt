use Rattle.std.proofs.Common.{arith}
use Rattle.std.specs.Prelude.{codes}
use Rattle.sd_text.specs.Grammar.{word}
use Rattle.sd_text.proofs.Engine.{shorter}
use Rattle.sd_whole_parse.specs.Entry.{entry_end}
use Rattle.sd_whole_parse.specs.Fields.{flags_of, rights_of, trustee_of}
use Rattle.sd_whole_parse.specs.Guid.{types_of}
use Rattle.sd_whole_parse.specs.Kind.{whole_kind}
use Rattle.sd_whole_parse.proofs.entry.read_entry.Goals as goal

-- each part takes some of the text, or none
pub returns-clause-shorter : goal.returns-clause-shorter
returns-clause-shorter c =
    let kind = shorter whole_kind c.args.cursor.now.rest.now c.in_ok-kind.kind c.read_kind.new.cursor.rest.now c.in_ok-kind.ensures in
    let first = shorter (word (codes ";")) c.read_kind.new.cursor.rest.now tt c.word.new.self.rest.now c.in_ok-word.ensures in
    let flags = shorter (flags_of c.in_ok-kind.kind) c.word.new.self.rest.now c.read_flags-flags.result.0 c.read_flags-flags.new.cursor.rest.now c.read_flags-flags.ensures in
    let second = shorter (word (codes ";")) c.read_flags-flags.new.cursor.rest.now tt c.word-2.new.self.rest.now c.in_ok-word-2.ensures in
    let mask = shorter (rights_of c.in_ok-kind.kind) c.word-2.new.self.rest.now c.in_ok-mask.mask c.read_rights.new.cursor.rest.now c.in_ok-mask.ensures in
    let third = shorter (word (codes ";")) c.read_rights.new.cursor.rest.now tt c.word-3.new.self.rest.now c.in_ok-word-3.ensures in
    let types = shorter (types_of c.has_object_types.result) c.word-3.new.self.rest.now c.in_ok-types.types c.read_types.new.cursor.rest.now c.in_ok-types.ensures.found in
    let trustee = shorter (trustee_of c.in_ok-kind.kind c.args.known) c.read_types.new.cursor.rest.now c.in_ok-sid.sid c.read_sid_of.new.cursor.rest.now c.in_ok-sid.ensures in
    let trailing = c.in_ok-trailing.ensures.shorter in
    let close = shorter (entry_end c.args.size c.plain_or_typed-entry.result) c.read_data.new.cursor.rest.now c.plain_or_typed-entry.result c.read_end.new.cursor.rest.now c.in_ok-read_end.ensures.found in
    let next = c.skip_to_entry.ensures.within in
    omega arith
