-- A node of the table, its numbers side by side.
use Rattle.std.specs.Prelude.{List, ℕ}
use Rattle.desc.specs.Layout.{node_of}
use Rattle.desc.specs.Table.{cell}

-- the numbers of node n, in the order of its columns
abbrev pub row_at : List ℕ → ℕ → List ℕ
row_at nd n = node_of (cell nd n 0) (cell nd n 1) (cell nd n 2) (cell nd n 3) (cell nd n 4) (cell nd n 5) (cell nd n 6)
