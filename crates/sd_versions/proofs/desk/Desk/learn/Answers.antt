use Rattle.sd_versions.proofs.Cited.{All-get_or, Learn, Learned, Machine, Steps, ap, arith, floor_of, get_or_read, length, length-take-le, longer, machine_of, max, slice_index_or, slice_set, subst, sym, take, with_floor, ◌<◌, ◌∙◌, ◌≡◌, ◌≤◌}
use Rattle.sd_versions.proofs.Keeping.{is_reader, floor_is, longer_is, floor_set}
use Rattle.sd_versions.proofs.desk.Desk.learn.Goals as goal

pub returns : goal.returns
returns c =
    let t = c.self.inside.tree in
    let ns = c.self.inside.floors.items in
    let floor = c.max-floor.result in
    let m = machine_of t ns in
    let P : Machine → Type 0 = λ m. Steps m (Learn c.args.reader c.args.length) (Learned floor) (machine_of t (slice_set ns c.args.reader floor)) in
    let there : c.args.reader < length ns = omega (arith, c.self.inside.floors.ok.0) in
    let whole : c.len-2.result ≡ length t.published = c.len-2.ensures.length ∙ ap length c.published.ensures.journal in
    let told : c.args.length ≤ length t.published = omega (arith, whole) in
    let known = slice_index_or ns c.args.reader 0 in
    let seen : known ≤ length t.published = All-get_or (λ n. n ≤ length t.published) ns c.args.reader 0 there c.self.invariant in
    let read : c.index.result.now ≡ known = get_or_read ns _ _ there c.index.ensures 0 in
    let is : floor ≡ max known c.args.length = c.max-floor.ensures ∙ ap (λ n. max n c.args.length) read in
    let within : floor ≤ length t.published = omega (arith, is) in
    let long : longer (floor_of m c.args.reader) (take c.args.length t.published) ≡ take floor t.published =
    ap (λ xs. longer xs (take c.args.length t.published)) (floor_is t ns c.args.reader there) ∙ longer_is t.published known c.args.length floor seen told is in
    subst P c.self.view_is (
      is_reader t ns c.args.reader there,
      told,
      sym (ap length long ∙ length-take-le floor t.published within),
      floor_set t ns c.args.reader floor ∙ ap (with_floor m c.args.reader) (sym long),
    )
