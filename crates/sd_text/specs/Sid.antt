-- SIDs as text ([MS-DTYP] 2.4.2.1).
use Rattle.std.specs.Prelude.{ℕ, ◌^◌, Bool, false, ◌&&◌, is_some, nat_lt, List, [], ◌∷◌, length, drop, Option, Some}
use Rattle.std.specs.Prelude.{None, codes}
use Rattle.std.specs.Char.{is_ascii_alphabetic}
use Rattle.sd_sid.specs.Sid.{SidValue}
use Rattle.sd_text.specs.declared.fault.TextFault.TheVariants.{Syntax, Range, UnknownAlias, DomainAlias}
use Rattle.sd_text.specs.Grammar.{Grammar, Name, value, refused, choose, word, number, one_of, many, begins}
use Rattle.sd_text.specs.Grammar.{begins_digit, named, whole, ◌>>=◌}
use Rattle.sd_text.specs.declared.alias.Aliases.{Aliases}
use Rattle.sd_text.specs.declared.domain.Domain.{Domain}
use Rattle.sd_text.specs.Alias.{aliases, later_aliases, domain_aliases, in_domain}
use Rattle.sd_text.specs.Domain.{account_sid}
use Rattle.sd_text.specs.Names.{renamed}

-- what precedes a sub-authority
abbrev pub dash : List (Name (Unit {0}))
dash = record { letters = codes "-"; stands_for = tt } ∷ []

-- a sub-authority; after fifteen no digit may follow
unfoldable pub sub : ℕ → Grammar ℕ
sub before = choose (λ text. nat_lt before 15) (number 0 10 (2 ^ 32))
    (choose (begins_digit 10) (refused Range) (refused Syntax))

-- the sub-authorities of a SID, at least one, and the SID
unfoldable pub subs_of : ℕ → Grammar SidValue
subs_of authority = do
  subs ← choose (λ text. begins text (codes "-")) (many dash (λ before u. sub (length before))) (refused Syntax)
  value (record { authority = authority; subs = subs })

-- an authority: hexadecimal after `0x`, else decimal
unfoldable pub authority : Grammar ℕ
authority = choose (λ text. begins text (codes "0X")) (number 2 16 (2 ^ 48)) (number 0 10 (2 ^ 48))

-- the text begins with a letter
abbrev pub begins_letter : List ℕ → Bool
begins_letter [] = false
begins_letter (c ∷ text) = is_ascii_alphabetic c

-- no alias is there
unfoldable pub no_alias : Grammar SidValue
no_alias = choose (λ text. begins_letter text && begins_letter (drop 1 text)) (refused UnknownAlias) (refused Syntax)

-- an alias of the table that stands for a SID of the domain, a fault without one
unfoldable pub domain_alias : List (Name ℕ) → Option Domain → Grammar SidValue
domain_alias names None = choose (λ text. is_some (named names text)) (refused DomainAlias) no_alias
domain_alias names (Some domain) = one_of (renamed (account_sid domain) names) no_alias

-- an alias of a newer version of Windows, where the text may have those, or one of the domain
abbrev pub other_alias : Aliases → Grammar SidValue
other_alias known = one_of (later_aliases known.later) (domain_alias (domain_aliases known.later) known.domain)

-- a SID, in full or by its alias
unfoldable pub sid : Aliases → Grammar SidValue
sid known = choose (λ text. begins text (codes "S-1-"))
    (word (codes "S-1-") >>= λ u. authority >>= λ number. subs_of number) (one_of aliases (other_alias known))

-- the text of a SID, with the aliases that it may have
abbrev pub sid_text_in : Aliases → Grammar SidValue
sid_text_in known = whole (sid known)

-- the text of a SID, without a domain or the aliases of newer versions
abbrev pub sid_text : Grammar SidValue
sid_text = sid_text_in (in_domain None)
