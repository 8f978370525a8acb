-- Two entries pass the test just where they are one.
use Rattle.std.proofs.Common.{ap, refl, sym, true, ◌&&◌, ◌==◌, ◌≡◌, ◌∙◌}
use Rattle.std.proofs.lemmas.Bool.{and_from, and_parts, eq-eqb, eqb-true}
use Rattle.std.specs.Bool.{Decides, beq}
use Rattle.sd_sid.proofs.Compared.{same_sid-itself, same_sid-true}
use Rattle.sd_sid.specs.Sid.{same_sid}
use Rattle.sd_acl.specs.Ace.{is_allow, same_ace}
use Rattle.sd_acl.specs.declared.ace.Ace.{Ace}
use Rattle.sd_acl.specs.declared.ace.AceKind.{AceKind}
use Rattle.sd_acl.specs.declared.ace.AceKind.TheVariants.{Allow, Deny}

same_kind : (a b : AceKind) → beq (is_allow a) (is_allow b) ≡ true → a ≡ b
same_kind Allow Allow e = refl
same_kind Allow Deny e = absurd cc
same_kind Deny Allow e = absurd cc
same_kind Deny Deny e = refl

pub one_ace : (a b : Ace) → same_ace a b ≡ true → a ≡ b
one_ace a b e =
    let t1 = beq (is_allow a.kind) (is_allow b.kind) in
    let t2 = a.flags.0 == b.flags.0 in
    let t3 = a.mask == b.mask in
    let p4 = and_parts (t1 && t2 && t3) (same_sid a.sid b.sid) e in
    let p3 = and_parts (t1 && t2) t3 p4.0 in
    let p2 = and_parts t1 t2 p3.0 in
    let kind = same_kind a.kind b.kind p2.0 in
    let flags = eqb-true a.flags.0 b.flags.0 p2.1 in
    let mask = eqb-true a.mask b.mask p3.1 in
    let sid = same_sid-true a.sid b.sid p4.1 in
    λ i. record { kind = kind i; flags = record { 0 = flags i }; mask = mask i; sid = sid i }

allow_itself : (k : AceKind) → beq (is_allow k) (is_allow k) ≡ true
allow_itself Allow = refl
allow_itself Deny = refl

pub ace_itself : (e : Ace) → same_ace e e ≡ true
ace_itself e =
    and_from (beq (is_allow e.kind) (is_allow e.kind) && e.flags.0 == e.flags.0 && e.mask == e.mask) (same_sid e.sid e.sid)
    (and_from (beq (is_allow e.kind) (is_allow e.kind) && e.flags.0 == e.flags.0) (e.mask == e.mask)
    (and_from (beq (is_allow e.kind) (is_allow e.kind)) (e.flags.0 == e.flags.0) (allow_itself e.kind) (eq-eqb e.flags.0 e.flags.0 refl))
    (eq-eqb e.mask e.mask refl))
    (same_sid-itself e.sid)

pub ace_decides : (a b : Ace) → Decides (same_ace a b) (a ≡ b)
ace_decides a b = (one_ace a b, λ one. ap (same_ace a) (sym one) ∙ ace_itself a)
