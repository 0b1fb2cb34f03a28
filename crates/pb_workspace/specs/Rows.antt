-- How a glob is matched: for each byte of the pattern, the whole name is walked once. For each end
-- of the name, a row says whether the rest of the pattern matches this end. Only private functions
-- need these definitions.
use Rattle.std.specs.Prelude.{ℕ, Bool, false, ◌&&◌, ◌||◌, ◌==◌, if◌then◌else◌, List, [], ◌∷◌}
use Rattle.pb_workspace.specs.Globs.{goes_on}
use Rattle.pb_workspace.specs.declared.glob.Cell.{Cell}
use Rattle.pb_workspace.specs.declared.glob.Row.{Row}

-- The cells of those ends of a name that are longer than `walked`; the shortest end comes first.
-- `before` has the name's bytes before `walked`, in reverse order.
abbrev pub cells_from : (List ℕ → Bool) → List ℕ → List ℕ → List Cell
cells_from test walked [] = []
cells_from test walked (b ∷ before) = record { byte = b; matched = test (b ∷ walked) } ∷ cells_from test (b ∷ walked) before

abbrev pub row_of : (List ℕ → Bool) → List ℕ → Row
row_of test before = record { empty = test []; cells = cells_from test [] before }

-- the cells of the empty pattern, which matches no end that has a byte
abbrev pub plain_cells : List ℕ → List Cell
plain_cells [] = []
plain_cells (b ∷ before) = record { byte = b; matched = false } ∷ plain_cells before

-- given the cells of a pattern, the cells of the pattern with `*` in front
abbrev pub star_cells : Bool → List Cell → List Cell
star_cells shorter [] = []
star_cells shorter (x ∷ xs) = record { byte = x.byte; matched = x.matched || shorter } ∷ star_cells (x.matched || shorter) xs

-- given the cells of a pattern, the cells of the pattern with `?` in front
abbrev pub one_cells : Bool → List Cell → List Cell
one_cells past [] = []
one_cells past (x ∷ xs) = record { byte = x.byte; matched = past } ∷ one_cells (if goes_on x.byte then past else x.matched) xs

-- given the cells of a pattern, the cells of the pattern with the byte `c` in front
abbrev pub byte_cells : ℕ → Bool → List Cell → List Cell
byte_cells c shorter [] = []
byte_cells c shorter (x ∷ xs) = record { byte = x.byte; matched = (x.byte == c) && shorter } ∷ byte_cells c x.matched xs

abbrev pub stepped : ℕ → Row → Row
stepped c row =
    if c == 42 then record { empty = row.empty; cells = star_cells row.empty row.cells }
    else (if c == 63 then record { empty = false; cells = one_cells row.empty row.cells }
    else record { empty = false; cells = byte_cells c row.empty row.cells })

-- the pattern matches the longest end of the name, which is the whole name
abbrev pub last_matched : Bool → List Cell → Bool
last_matched shorter [] = shorter
last_matched shorter (x ∷ xs) = last_matched x.matched xs
