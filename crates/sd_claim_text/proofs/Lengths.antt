-- What is left of a text after a part, or from its fault on, is no longer than the text.
use Rattle.std.proofs.Common.{Err, List, Ok, ap, arith, length, sym, ℕ, ◌-◌, ◌∙◌, ◌≡◌, ◌≤◌}
use Rattle.sd_sid.specs.Sid.{SidValue}
use Rattle.sd_text.proofs.Engine.{fault_at, faults_find, shorter}
use Rattle.sd_text.proofs.Parts.{stopped, stopped_is}
use Rattle.sd_text.specs.Finding.{find}
use Rattle.sd_text.specs.Grammar.{word}
use Rattle.sd_text.specs.Sid.{sid}
use Rattle.sd_text.specs.declared.alias.Aliases.{Aliases}
use Rattle.sd_text.specs.declared.fault.TextFault.{TextFault}

pub sid_takes : (known : Aliases) (text rest : List ℕ) (s : SidValue) → find (sid known) text ≡ Ok (s, rest) → length rest ≤ length text
sid_takes known text rest s e = shorter (sid known) text s rest e

pub sid_stops : (known : Aliases) (text there : List ℕ) (fault : TextFault) → find (sid known) text ≡ Err (fault, there) → length there ≤ length text
sid_stops known text there fault e =
    let has = fault_at (sid known) text fault there (length text - length there) e (λ le. omega arith) in
    let again = faults_find (sid known) text fault has.0 has.1 in
    let same : stopped {A = SidValue} fault has.0 ≡ stopped fault there = sym again ∙ e in
    let end : has.0 ≡ there = (stopped_is fault fault has.0 there same).1 in
    let placed = has.2 in
    omega (arith, ap length end)

pub letters_take : (letters text rest : List ℕ) → find (word letters) text ≡ Ok (tt, rest) → length rest ≤ length text
letters_take letters text rest e = shorter (word letters) text tt rest e
