-- Whole descriptors as text ([MS-DTYP] 2.5.1.1, sddl).
use Rattle.std.specs.Prelude.{ℕ, ◌+◌, cond, List, codes}
use Rattle.sd_text.specs.Finding.{Found, find}
use Rattle.sd_text.specs.Grammar.{end}
use Rattle.sd_text.specs.Sddl.{sid_section}
use Rattle.sd_text.specs.declared.alias.Aliases.{Aliases}
use Rattle.sd_text.specs.declared.descriptor.DaclWords.{DaclWords}
use Rattle.sd_whole.specs.declared.descriptor.WholeDescriptor.{WholeDescriptor}
use Rattle.sd_whole_parse.specs.Acl.{acl_section}
use Rattle.sd_whole_parse.specs.Finding.{◌>>=◌, done}

-- the control bits of P, AR and AI of a DACL: PD, DC and DI (2.4.6)
abbrev pub dacl_bits : DaclWords → ℕ
dacl_bits words = cond words.protected 0x1000 0 + cond words.auto_req 0x0100 0 + cond words.auto_inherited 0x0400 0

-- the control bits of P, AR and AI of a SACL: PS, SC and SI (2.4.6)
abbrev pub sacl_bits : DaclWords → ℕ
sacl_bits words = cond words.protected 0x2000 0 + cond words.auto_req 0x0200 0 + cond words.auto_inherited 0x0800 0

-- the whole text of a descriptor: owner, group, DACL, SACL, of which each may be left out
unfoldable pub whole_found : Aliases → List ℕ → Found WholeDescriptor
whole_found known = do
  owner ← find (sid_section known (codes "O:"))
  group ← find (sid_section known (codes "G:"))
  dacl ← acl_section known (codes "D:")
  sacl ← acl_section known (codes "S:")
  u ← find end
  done (record {
    resource_manager = 0;
    control = dacl_bits dacl.words + sacl_bits sacl.words;
    owner = owner;
    group = group;
    sacl = sacl.acl;
    dacl = dacl.acl;
  })
