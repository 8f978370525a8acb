-- What `who` is asked about, and what it answers: rights, whom an alternative grants them to, and unless which SIDs are
-- in the token. Rights with the same alternative are in one line, the lines are in the order of their lowest rights,
-- and for the same one in the order of the alternatives.
use Rattle.std.specs.Prelude.{ℕ, ◌==◌, if◌then◌else◌, Option, None, List, [], fold, length, map, take}
use Rattle.sd_sid.specs.Mapping.{MappingValue, mapped}
use Rattle.sd_sid.specs.Mask.{holds}
use Rattle.sd_sid.specs.Sid.{SidValue}
use Rattle.sd_analysis.specs.declared.descendants.Descendant.{Descendant}
use Rattle.sd_analysis.specs.declared.who_has.Access.{Access}
use Rattle.sd_analysis.specs.declared.who_has.Alternative.{Alternative}
use Rattle.sd_analysis.specs.declared.who_has.Holder.{Holder}
use Rattle.sd_analysis.specs.declared.who_has.Holder.TheVariants as holders
use Rattle.sd_line.specs.Line.{LineOf}
use Rattle.sd_line.specs.declared.line.SidMark.{SidMark}
use Rattle.sd_line.specs.declared.line.SidMark.TheVariants.{Plain}
use Rattle.sd_answer.specs.Lines.{LineValue, Saying, bits, bits_lines, joined}
use Rattle.sd_answer.specs.declared.forms.TheConstants.{WHO}
use Rattle.sd_answer.specs.declared.lines.Whom.{Whom}
use Rattle.sd_answer.specs.declared.lines.Whom.TheVariants.{Everyone, Nobody, Sid, Owner}

-- the rights that are asked about: those of the mask, generic ones mapped; with MAXIMUM_ALLOWED, place 25, all
abbrev pub rights_asked : MappingValue → ℕ → ℕ
rights_asked g asked = if holds asked 25 then 0x001FFFFF else mapped g asked

abbrev pub holder_whom : Holder → Whom
holder_whom holders.Everyone = Everyone
holder_whom (holders.Sid s) = Sid s
holder_whom (holders.Owner s) = Owner s

abbrev pub plain_sids : List SidValue → List (SidValue × SidMark)
plain_sids sids = map (λ s. (s, Plain)) sids

-- whom an alternative is for, and unless which SIDs
abbrev pub alternative_saying : List SidValue → Alternative → Saying
alternative_saying denied a = (holder_whom a.holder, plain_sids (take a.unless denied))

-- with the rights of an access, which join those of the same alternatives
abbrev pub with_access : List LineValue → Access → List LineValue
with_access lines access =
    if length access.alternatives.items == 0 then joined lines access.mask (Nobody, [])
    else fold (λ (so_far : List LineValue) (a : Alternative). joined so_far access.mask
    (alternative_saying access.denied.items a))
    lines access.alternatives.items

abbrev pub joined_accesses : List Access → List LineValue
joined_accesses accesses = fold with_access [] accesses

-- the lines, about the object or about what is made in it
abbrev pub made_who_lines : Option Descendant → List Access → List LineOf
made_who_lines made accesses = bits_lines (bits WHO) made (joined_accesses accesses)

abbrev pub who_lines : List Access → List LineOf
who_lines accesses = made_who_lines None accesses
