-- How a desk keeps the machine: the two versions of its tree, and each floor's length. No public contract says so.
use Rattle.std.specs.Prelude.{ℕ, ◌≤◌, List, length, take, map, All}
use Rattle.sd_edit.specs.declared.edit.Edit.{Edit}
use Rattle.sd_versions.specs.Versions.{VersionsValue}
use Rattle.sd_edit.specs.Machine.{Machine}

-- the beginnings of the journal with these lengths
abbrev pub beginnings : List Edit → List ℕ → List (List Edit)
beginnings journal lengths = map (λ n. take n journal) lengths

abbrev pub machine_of : VersionsValue → List ℕ → Machine
machine_of tree floors = record {
  opening = tree.opening;
  published = tree.published;
  pending = tree.pending;
  floors = beginnings tree.published floors;
}

-- no floor is longer than the journal
abbrev pub AreWithin : List Edit → List ℕ → Type 0
AreWithin journal floors = All (λ n. n ≤ length journal) floors
