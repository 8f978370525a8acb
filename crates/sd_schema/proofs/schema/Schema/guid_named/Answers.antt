use Rattle.std.proofs.Common.{ap, subst, sym, ◌∙◌, ◌≡◌, Some, Err, Ok}
use Rattle.std.specs.List.{list_any}
use Rattle.std.specs.Prelude.{if◌then◌else◌}
use Rattle.sd_schema.specs.Kept.{all_rows, row_of}
use Rattle.sd_schema.specs.Names.{first_named, is_another}
use Rattle.sd_schema.specs.declared.names.TypeNameFault.TheVariants.{Ambiguous}
use Rattle.sd_schema.proofs.Named.{one_or_two}
use Rattle.sd_schema.proofs.schema.Schema.guid_named.Goals as goal

pub returns-then-names_another : goal.returns-then-names_another
returns-then-names_another c =
    let first : Some c.in-Some.guid ≡ first_named (all_rows c.args.self.now.rows.items) c.args.text.now =
    subst (λ rows. Some c.in-Some.guid ≡ first_named (all_rows rows) c.args.text.now) c.deref.ensures.value c.in-Some.ensures in
    let another = subst (λ rows. c.names_another.result ≡ list_any (λ row. is_another c.args.text.now c.in-Some.guid (row_of row)) rows) c.deref-2.ensures.value c.names_another.ensures in
    sym (one_or_two c.args.self.now.rows.items c.args.text.now c.in-Some.guid c.names_another.result first another
    ∙ ap (λ b. if b then Err Ambiguous else Ok c.in-Some.guid) c.if-names_another.true)

pub returns : goal.returns
returns c =
    let first : Some c.in-Some.guid ≡ first_named (all_rows c.args.self.now.rows.items) c.args.text.now =
    subst (λ rows. Some c.in-Some.guid ≡ first_named (all_rows rows) c.args.text.now) c.deref.ensures.value c.in-Some.ensures in
    let another = subst (λ rows. c.names_another.result ≡ list_any (λ row. is_another c.args.text.now c.in-Some.guid (row_of row)) rows) c.deref-2.ensures.value c.names_another.ensures in
    sym (one_or_two c.args.self.now.rows.items c.args.text.now c.in-Some.guid c.names_another.result first another
    ∙ ap (λ b. if b then Err Ambiguous else Ok c.in-Some.guid) c.if-names_another.false)
