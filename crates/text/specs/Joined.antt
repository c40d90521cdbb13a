-- Lines and cells put together again, with what stood between them: request 2026-02. Assumes nothing.
use Rattle.std.specs.Prelude.{cond, ◌&&◌, List, [], ◌∷◌, ◌++◌, eqb}
use Rattle.text_bytes.specs.Bytes.{Bytes, is_empty, on_first}
use Rattle.text.specs.Lines.{TAB, LF, CR, starts_lf}

-- what ends each line: LF, or CR LF; and nothing, where bytes after the last LF are a line
unfoldable pub line_ends : Bytes → List Bytes
line_ends [] = []
line_ends (x ∷ xs) =
    cond (eqb x LF) ((x ∷ []) ∷ line_ends xs)
    (cond (eqb x CR && starts_lf xs) (on_first x (line_ends xs))
    (cond (is_empty xs) ([] ∷ []) (line_ends xs)))

-- lines and what ends them, by turns
unfoldable pub joined : List Bytes → List Bytes → Bytes
joined [] es = []
joined (l ∷ ls) [] = l ++ joined ls []
joined (l ∷ ls) (e ∷ es) = l ++ (e ++ joined ls es)

-- cells with tabs between them
unfoldable pub tabbed : List Bytes → Bytes
tabbed [] = []
tabbed (x ∷ []) = x
tabbed (x ∷ (y ∷ ys)) = x ++ (TAB ∷ tabbed (y ∷ ys))
