-- TO BELIEVE: the theorem rests on these definitions, and no proof can check them.
-- What the operators do, and the names of that.
use Rattle.std.specs.Prelude.{ℕ, List, codes}
use Rattle.plan.specs.Nodes as nodes
use Rattle.plan.specs.declared.node.NodeKind.{NodeKind}
use Rattle.plan.specs.declared.node.NodeKind.TheVariants.{Window, Select, Join, Project, Group}
use Rattle.plan.specs.declared.node.NodeKind.TheVariants.{Distinct, ToStream}

abbrev pub kind_of : nodes.Node → NodeKind
kind_of (nodes.Window source) = Window
kind_of (nodes.Select input conditions) = Select
kind_of (nodes.Join left right keys) = Join
kind_of (nodes.Project input columns) = Project
kind_of (nodes.Group input by items) = Group
kind_of (nodes.Distinct input) = Distinct
kind_of (nodes.ToStream input operator) = ToStream

abbrev pub kind_name : NodeKind → List ℕ
kind_name Window = codes "Window"
kind_name Select = codes "Select"
kind_name Join = codes "Join"
kind_name Project = codes "Project"
kind_name Group = codes "Group"
kind_name Distinct = codes "Distinct"
kind_name ToStream = codes "ToStream"
