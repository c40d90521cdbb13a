-- Worked examples of a file's facts, computed. Assumes nothing.
use Rattle.std.specs.Prelude.{◌≡◌, refl}
use Rattle.text_bytes.specs.Bytes.{bytes, same, on_first, split_on}
use Rattle.text.specs.Lines.{starts_lf, lines, coded, cell, is_field}
use Rattle.book_kinds.specs.Kinds.{is_fixed, of_kind}
use Rattle.book_facts.specs.Facts.{earliest, mode_of, type_of, version_of}

-- the first valid mode counts, an invalid one before it does not, nor one on a line of four cells (67 is `C`, 83 `S`)
modes : (mode_of (lines (bytes "MTD\tmzTab-mode\tcomplete\nMTD\tmzTab-mode\tComplete\nMTD\tmzTab-mode\tSummary")) ≡ 67)
    × (mode_of (lines (bytes "MTD\tmzTab-mode\tComplete\t\nMTD\tmzTab-mode\tSummary")) ≡ 83) × (mode_of (lines (bytes "COM\tmzTab-mode\tSummary")) ≡ 0)
unfolding mode_of earliest lines starts_lf is_field coded cell same split_on on_first of_kind is_fixed bytes
modes = (refl, refl, refl)

-- the type (81 is `Q`), late as it stands; and the line of the version, valid or not
others : (type_of (lines (bytes "PRT\tx\nMTD\tmzTab-type\tQuantification")) ≡ 81) × (version_of (lines (bytes "\nMTD\tmzTab-version\t2.0.0-M\nMTD\tmzTab-version\t1.0")) ≡ 2)
unfolding type_of version_of earliest lines starts_lf is_field coded cell same split_on on_first of_kind is_fixed bytes
others = (refl, refl)
