-- The letters of the book: the kinds of value, the families of ids, and when something is asked of a file. Assumes nothing.
use Rattle.std.specs.Prelude.{ℕ}

-- T text
abbrev pub TEXT : ℕ
TEXT = 84

-- K text that is never `null`
abbrev pub KEPT : ℕ
KEPT = 75

-- W whole
abbrev pub WHOLE : ℕ
WHOLE = 87

-- D decimal
abbrev pub DECIMAL : ℕ
DECIMAL = 68

-- L decimal list
abbrev pub DECIMALS : ℕ
DECIMALS = 76

-- N window
abbrev pub WINDOW : ℕ
WINDOW = 78

-- P parameter
abbrev pub PARAMETER : ℕ
PARAMETER = 80

-- Q parameter list
abbrev pub PARAMETERS : ℕ
PARAMETERS = 81

-- R reliability of sections 1 to 3
abbrev pub RELIABILITY : ℕ
RELIABILITY = 82

-- U unique
abbrev pub UNIQUE : ℕ
UNIQUE = 85

-- v the value of mzTab-version
abbrev pub VERSION : ℕ
VERSION = 118

-- m the value of mzTab-mode
abbrev pub MODE : ℕ
MODE = 109

-- t the value of mzTab-type
abbrev pub TYPE : ℕ
TYPE = 116

-- r reference
abbrev pub REFERENCE : ℕ
REFERENCE = 114

-- l reference list
abbrev pub REFERENCES : ℕ
REFERENCES = 108

-- - no family
abbrev pub NONE : ℕ
NONE = 45

-- S sample
abbrev pub SAMPLE : ℕ
SAMPLE = 83

-- A assay
abbrev pub ASSAY : ℕ
ASSAY = 65

-- V study variable
abbrev pub VARIABLE : ℕ
VARIABLE = 86

-- R run
abbrev pub RUN : ℕ
RUN = 82

-- THE FAMILIES by their numbers: 0 sample, 1 assay, 2 study variable, 3 run

abbrev pub ASSAYS : ℕ
ASSAYS = 1

abbrev pub STUDY_VARIABLES : ℕ
STUDY_VARIABLES = 2

-- WHEN SOMETHING IS ASKED: a demand on the metadata, or a required column

-- * of every file
abbrev pub ALWAYS : ℕ
ALWAYS = 42

-- + of every file that has a mode and a type
abbrev pub TYPED : ℕ
TYPED = 43

-- C of Complete files that have a type
abbrev pub COMPLETE : ℕ
COMPLETE = 67

-- q of Quantification files that have a mode
abbrev pub QUANTIFIED : ℕ
QUANTIFIED = 113

-- Q of Complete Quantification files
abbrev pub BOTH : ℕ
BOTH = 81

-- A of Complete Quantification files, and of Summary ones where some assay is declared
abbrev pub ASSAYED : ℕ
ASSAYED = 65

-- the entry number of an `opt_` column, which stands in no table
abbrev pub OPT : ℕ
OPT = 255
