-- What the parent doesn't grant is asked of the file.
use Rattle.std.proofs.Common.{◌∙◌, ◌==◌, ◌&&◌, not, ap, sym, subst}
use Rattle.std.specs.Prelude.{if◌then◌else◌}
use Rattle.sd_acl.specs.Descriptor.{descriptor_of}
use Rattle.sd_check.specs.Check.{dacl_entries, is_granted, joined_with, missing_of, most}
use Rattle.sd_check.specs.declared.verdict.Verdict.TheVariants.{Denied, Granted}
use Rattle.sd_sid.specs.Mapping.{mapped}
use Rattle.sd_sid.specs.Mask.{holds, mask_of}
use Rattle.sd_open.proofs.Rest.{all, denied, granted, nothing, rest_is_own, asked}
use Rattle.sd_open.proofs.open.check_with.Goals as goal
use Rattle.sd_open.specs.Open.{IsOwnRights}

pub missing_of-missing-requires : goal.missing_of-missing-requires
missing_of-missing-requires c =
    let g = c.args.mapping.now in
    let wanted = c.map-wanted.ensures ∙ ap (mapped g) c.minus.ensures in
    let others = c.minus-2.ensures ∙ ap (λ q. mask_of (λ b. holds q b && not (holds c.args.more b)) 32) wanted in
    subst (IsOwnRights g) (sym others) (rest_is_own g c.all-all.ensures.known c.args.asked c.requires.free c.args.more)

pub returns-then-not-is_empty : goal.returns-then-not-is_empty
returns-then-not-is_empty c =
    let g = c.args.mapping.now in
    let file = descriptor_of c.args.file.now in
    let own = is_granted file.owner (dacl_entries file.dacl) g c.args.token.now in
    let wanted = c.map-wanted.ensures ∙ ap (mapped g) c.minus.ensures in
    let others = c.minus-2.ensures ∙ ap (λ q. mask_of (λ b. holds q b && not (holds c.args.more b)) 32) wanted in
    let missing = c.missing_of-missing.ensures ∙ ap (missing_of own) others in
    let lacks = ap (λ n. n == 0) (sym missing) ∙ sym c.is_empty.ensures ∙ c.if-not-is_empty.true in
    ap Denied missing
    ∙ sym (denied g c.all-all.ensures.known c.args.asked c.requires.free c.args.more own (most file.owner (dacl_entries file.dacl) g c.args.token.now) c.requires.some lacks)

pub returns-then-holds : goal.returns-then-holds
returns-then-holds c =
    let g = c.args.mapping.now in
    let file = descriptor_of c.args.file.now in
    let own = is_granted file.owner (dacl_entries file.dacl) g c.args.token.now in
    let wanted = c.map-wanted.ensures ∙ ap (mapped g) c.minus.ensures in
    let others = c.minus-2.ensures ∙ ap (λ q. mask_of (λ b. holds q b && not (holds c.args.more b)) 32) wanted in
    let missing = c.missing_of-missing.ensures ∙ ap (missing_of own) others in
    let has = ap (λ n. n == 0) (sym missing) ∙ sym c.is_empty.ensures ∙ c.if-not-is_empty.false in
    let everything = c.union.ensures ∙ ap (λ q. joined_with q c.union-most.result) wanted
    ∙ ap (joined_with (asked g c.all-all.ensures.known c.args.asked c.requires.free c.args.more)) (c.union-most.ensures ∙ ap (λ m. joined_with m c.args.more) c.most_of.ensures) in
    c.all_granted.ensures ∙ ap (λ n. if n == 0 then Denied 0x02000000 else Granted n) everything
    ∙ sym (all g c.all-all.ensures.known c.args.asked c.requires.free c.args.more own (most file.owner (dacl_entries file.dacl) g c.args.token.now)
    c.requires.some has (sym c.holds.ensures ∙ c.if-holds.true))

pub returns-then-is_empty : goal.returns-then-is_empty
returns-then-is_empty c =
    let g = c.args.mapping.now in
    let file = descriptor_of c.args.file.now in
    let own = is_granted file.owner (dacl_entries file.dacl) g c.args.token.now in
    let wanted = c.map-wanted.ensures ∙ ap (mapped g) c.minus.ensures in
    let none = ap (λ n. n == 0) (sym wanted) ∙ sym c.is_empty-2.ensures ∙ c.if-is_empty.true in
    sym (nothing g c.all-all.ensures.known c.args.asked c.requires.free c.args.more own (most file.owner (dacl_entries file.dacl) g c.args.token.now)
    c.requires.some (sym c.holds.ensures ∙ c.if-holds.false) none)

pub returns : goal.returns
returns c =
    let g = c.args.mapping.now in
    let file = descriptor_of c.args.file.now in
    let own = is_granted file.owner (dacl_entries file.dacl) g c.args.token.now in
    let wanted = c.map-wanted.ensures ∙ ap (mapped g) c.minus.ensures in
    let others = c.minus-2.ensures ∙ ap (λ q. mask_of (λ b. holds q b && not (holds c.args.more b)) 32) wanted in
    let missing = c.missing_of-missing.ensures ∙ ap (missing_of own) others in
    let has = ap (λ n. n == 0) (sym missing) ∙ sym c.is_empty.ensures ∙ c.if-not-is_empty.false in
    let some = ap (λ n. n == 0) (sym wanted) ∙ sym c.is_empty-2.ensures ∙ c.if-is_empty.false in
    ap Granted wanted
    ∙ sym (granted g c.all-all.ensures.known c.args.asked c.requires.free c.args.more own (most file.owner (dacl_entries file.dacl) g c.args.token.now)
    c.requires.some has (sym c.holds.ensures ∙ c.if-holds.false) some)
