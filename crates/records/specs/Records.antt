-- Records: what each is made of, and how long it is. Assumes nothing.
use Rattle.std.specs.Prelude.{Bool, false, cond, ◌&&◌, List, ℕ, ◌+◌, ◌*◌, ltb, eqb, length, get_or, drop}
use Rattle.std.proofs.Math.Option.{Option, none, some}
use Rattle.combinatorics.specs.Stretch.{tabulate}
use Rattle.cells.specs.Bytes.{byte_values, payload_len}
use Rattle.cells.specs.Figures.{max_bursts, max_word}
use Rattle.cells.specs.Outcomes.{Held, held, FiguresOut, figured, unserved, figures_under}
use Rattle.codes.specs.declared.Figures.{Figures}
use Rattle.codes.specs.declared.Figures.TheVariants.{Ranked, Long}
use Rattle.codes.specs.Bridge.{coding_of}
use Rattle.jobs.specs.Letters.{is_letter}
use Rattle.lines.specs.Lines.{letter_s, letter_l, letter_w, letter_r}
use Rattle.records.specs.Session.{Session}

-- ---- What a record is made of

-- mark and letter
abbrev pub record_head_len : ℕ
record_head_len = 3

-- "Each record has the mark 4C 54 (hex), a kind letter, then .."
abbrev pub is_marked : List ℕ → Bool
is_marked bytes = eqb (get_or bytes 0 0) 76 && eqb (get_or bytes 1 0) 84

abbrev pub letter_of : List ℕ → ℕ
letter_of bytes = get_or bytes 2 0

abbrev pub is_empty : List ℕ → Bool
is_empty bytes = eqb (length bytes) 0

-- "High byte first.": the number in two bytes from position i on
abbrev pub two_bytes : List ℕ → ℕ → ℕ
two_bytes bytes i = get_or bytes i 0 * byte_values + get_or bytes (i + 1) 0

-- ---- How long it is

-- figures that an S or L with them is accepted for
abbrev pub if_fit : Figures → FiguresOut → Option Figures
if_fit f (figured t r k) = some f
if_fit f (unserved a) = none

-- those of the last accepted S or L
abbrev pub current : Option Figures → Option Figures
current none = none
current (some f) = if_fit f (figures_under (coding_of f))

-- K
abbrev pub payload_len_of : Figures → ℕ
payload_len_of f = payload_len (coding_of f).codec.alphabet (coding_of f).codec.message_len_of

-- "W (write) m starts (2 each) and K bytes"
abbrev pub write_len : Option Figures → Option ℕ
write_len none = none
write_len (some f) = some (record_head_len + 2 * (coding_of f).bursts + payload_len_of f)

-- "R (read) n bytes"
abbrev pub read_len : Option Figures → Option ℕ
read_len none = none
read_len (some f) = some (record_head_len + (coding_of f).codec.word_len)

-- "S (figures) n (2 bytes), q−1 (1), m (1), b (2); O (open), C (cancel), F (finish) a job number (4)"; document 02, ticket 1: "letter L carries n (2
-- bytes), q−1 (1) and b (2)". Nothing for an "unknown letter" and for "W or R before an accepted S"; "an accepted L serves a W or R as an accepted S does".
unfoldable pub record_len : Session → ℕ → Option ℕ
record_len s letter =
    cond (eqb letter letter_s) (some (record_head_len + 6))
    (cond (eqb letter letter_l) (some (record_head_len + 5))
    (cond (is_letter letter) (some (record_head_len + 4))
    (cond (eqb letter letter_w) (write_len (current s.figures))
    (cond (eqb letter letter_r) (read_len (current s.figures))
    none))))

-- no record is longer: the starts of the most bursts, and as many bytes as the longest word has symbols
abbrev pub max_record : ℕ
max_record = record_head_len + 2 * max_bursts + max_word

-- not a "cut record"
abbrev pub is_whole : List ℕ → Option ℕ → Bool
is_whole bytes none = false
is_whole bytes (some k) = eqb (length bytes) k

-- "A wrong mark, unknown letter, cut record, W or R before an accepted S" otherwise
unfoldable pub readable : Session → List ℕ → Bool
readable s bytes = is_marked bytes && is_whole bytes (record_len s (letter_of bytes))

-- ---- How many bytes are waited for

-- how many bytes are read for a record: mark and letter alone, where no record has that letter
abbrev pub reach : Option ℕ → ℕ
reach none = record_head_len
reach (some k) = k

-- The length of the record that begins with these bytes: nothing where mark and letter are not there yet, at a wrong mark, and where no record has
-- that letter.
unfoldable pub begun_len : Session → List ℕ → Option ℕ
begun_len s bytes =
    cond (ltb (length bytes) record_head_len) none
    (cond (is_marked bytes) (record_len s (letter_of bytes))
    none)

-- how many bytes the next record takes, by what is there of it. A record is refused by its mark or letter alone, so that no more is waited for.
abbrev pub needed_for : Session → List ℕ → ℕ
needed_for s bytes = reach (begun_len s bytes)

-- ---- What it says

-- "S (figures) n (2 bytes), q−1 (1), m (1), b (2)"
abbrev pub figures_in : List ℕ → Figures
figures_in bytes = Ranked (record { n = two_bytes bytes 3; q = get_or bytes 5 0 + 1; m = get_or bytes 6 0; b = two_bytes bytes 7 })

-- document 02, ticket 1: "L carries n (2 bytes), q−1 (1) and b (2)"
abbrev pub long_figures_in : List ℕ → Figures
long_figures_in bytes = Long (record { n = two_bytes bytes 3; q = get_or bytes 5 0 + 1; b = two_bytes bytes 6 })

-- "m starts (2 each)"
abbrev pub record_starts : Figures → List ℕ → Held
record_starts f bytes = held (tabulate (coding_of f).bursts 0 (λ i. two_bytes bytes (record_head_len + 2 * i)))

-- "and K bytes"
abbrev pub payload_of : Figures → List ℕ → List ℕ
payload_of f bytes = drop (record_head_len + 2 * (coding_of f).bursts) bytes
