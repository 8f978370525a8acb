-- The nodes of a tree, one after the other, as the entries of its finite map.
use Rattle.sd_acl.specs.Descriptor.{DescriptorValue, descriptor_of}
use Rattle.sd_acl.specs.declared.descriptor.Descriptor.{Descriptor}
use Rattle.sd_path.specs.Names.{Names}
use Rattle.sd_inheritance.specs.declared.kind.NodeKind.{NodeKind}
use Rattle.sd_edit.specs.declared.node.NodeRow.{NodeRow}
use Rattle.sd_tree.specs.declared.listing.NodeRef.{NodeRef}

-- the path of a lent node, and what stands there
abbrev pub listed : NodeRef → Names × NodeRow
listed n = (n.path.now, record { kind = n.kind; owner = n.owner; group = n.group; dacl = n.dacl.now })

-- what was given to a node
abbrev pub given_of : NodeKind × Descriptor → NodeKind × DescriptorValue
given_of given = (given.0, descriptor_of given.1)
