-- Request P11: a line of a candump log, as text and read. Assumes nothing.
use Rattle.std.specs.Prelude.{ℕ, ◌+◌, ◌-◌, ◌*◌, ◌/◌, ◌%◌, ◌≤◌, Bool, true, false, List, [], ◌∷◌, ◌++◌, eqb, leb, ltb, T, length, if◌then◌else◌}
use Rattle.std.proofs.Math.Option.{Option, none, some, map, bind}
use Rattle.codec.specs.Plain.{within, all, is_byte}
use Rattle.text.specs.Text.{fixed, decimal, value_of, number_of}
use Rattle.machine.specs.Limits.{last_line, most_bytes}
use Rattle.machine.specs.Message.{id_limit}

-- a second in microseconds
abbrev pub second : ℕ
second = 1_000_000

-- a logged frame: its time in microseconds, its line, width, identifier and data
pub record Logged : Type 0 where
  pub time : ℕ
  pub line : ℕ
  pub wide : Bool
  pub id : ℕ
  pub bytes : List ℕ

-- a frame that a line can carry
pub record Good (g : Logged) : Type 0 where
  pub bus : g.line ≤ last_line
  pub small : g.id ≤ id_limit g.wide
  pub few : length g.bytes ≤ most_bytes
  pub octets : T (all is_byte g.bytes)

-- ---- the marks of a line: `(`, `.`, `)`, a blank, `#`
abbrev pub opens : ℕ
opens = 0x28

abbrev pub point : ℕ
point = 0x2E

abbrev pub closes : ℕ
closes = 0x29

abbrev pub blank : ℕ
blank = 0x20

abbrev pub hash : ℕ
hash = 0x23

-- what the names of the lines begin with: "can"
abbrev pub can : List ℕ
can = 0x63 ∷ 0x61 ∷ 0x6E ∷ []

-- the digit 0
abbrev pub nought : ℕ
nought = 0x30

-- ---- writing

-- three digits narrow, eight wide
unfoldable pub id_digits : Bool → ℕ
id_digits wide = if wide then 8 else 3

unfoldable pub data_text : List ℕ → List ℕ
data_text [] = []
data_text (b ∷ bs) = fixed 16 2 b ++ data_text bs

-- ID#DATA
unfoldable pub frame_text : Logged → List ℕ
frame_text g = fixed 16 (id_digits g.wide) g.id ++ (hash ∷ data_text g.bytes)

-- can0 to can3
unfoldable pub name_text : ℕ → List ℕ
name_text line = can ++ ((nought + line) ∷ [])

-- microseconds in six decimals
unfoldable pub micro_text : ℕ → List ℕ
micro_text m = fixed 10 6 m

-- (seconds.microseconds) NAME ID#DATA, without the line's end
unfoldable pub line_text : Logged → List ℕ
line_text g =
    opens ∷ (decimal (g.time / second) ++ (point ∷ (micro_text (g.time % second) ++ (closes ∷ blank ∷ (name_text g.line ++ (blank ∷ frame_text g))))))

-- ---- reading

-- what stands before the first c, and behind it; none where there is none
unfoldable pub cut : ℕ → List ℕ → Option (List ℕ × List ℕ)
cut c [] = none
cut c (x ∷ xs) = if eqb x c then some ([], xs) else map (λ p. (x ∷ p.0, p.1)) (cut c xs)

-- what follows these bytes; none where the list doesn't begin with them
unfoldable pub behind : List ℕ → List ℕ → Option (List ℕ)
behind [] l = some l
behind (c ∷ cs) [] = none
behind (c ∷ cs) (x ∷ xs) = if eqb x c then behind cs xs else none

-- a value that passes its test
unfoldable pub only : {A : Type 0} → Bool → A → Option A
only t a = if t then some a else none

-- six decimals
unfoldable pub six_in : List ℕ → Option ℕ
six_in l = if eqb (length l) 6 then value_of 10 0 l else none

-- three digits are narrow, eight wide
unfoldable pub width_in : List ℕ → Option Bool
width_in l = if eqb (length l) 3 then some false else if eqb (length l) 8 then some true else none

-- an identifier within its width's limit
unfoldable pub id_in : Bool → List ℕ → Option ℕ
id_in wide l = bind (value_of 16 0 l) (λ id. only (leb id (id_limit wide)) id)

-- its width and the identifier
unfoldable pub both_in : List ℕ → Option (Bool × ℕ)
both_in l = bind (width_in l) (λ wide. bind (id_in wide l) (λ id. some (wide, id)))

-- bytes of two digits
unfoldable pub data_in : List ℕ → Option (List ℕ)
data_in [] = some []
data_in (x ∷ []) = none
data_in (x ∷ y ∷ l) = bind (value_of 16 0 (x ∷ y ∷ [])) (λ b. map (b ∷◌) (data_in l))

-- at most 8 bytes
unfoldable pub few_in : List ℕ → Option (List ℕ)
few_in l = bind (data_in l) (λ b. only (leb (length b) most_bytes) b)

-- ID#DATA: its width, identifier and data
unfoldable pub frame_in : List ℕ → Option (Bool × ℕ × List ℕ)
frame_in l = bind (cut hash l) (λ s. bind (both_in s.0) (λ id. bind (few_in s.1) (λ b. some (id.0, id.1, b))))

-- what a line says, whatever the name of its line is
pub record Words : Type 0 where
  pub time : ℕ
  pub name : List ℕ
  pub wide : Bool
  pub id : ℕ
  pub bytes : List ℕ

unfoldable pub words : ℕ → List ℕ → Bool × ℕ × List ℕ → Words
words time name f = record { time = time; name = name; wide = f.0; id = f.1; bytes = f.2 }

-- NAME ID#DATA: a name is any word
unfoldable pub name_in : ℕ → List ℕ → Option Words
name_in time l =
    bind (cut blank l) (λ s. bind (only (ltb 0 (length s.0)) s.0) (λ name. bind (frame_in s.1) (λ f. some (words time name f))))

-- (SECONDS.MICROSECONDS) in microseconds, and what follows it
unfoldable pub time_in : List ℕ → Option (ℕ × List ℕ)
time_in l =
    bind (behind (opens ∷ []) l) (λ r.
    bind (cut point r) (λ s.
    bind (number_of 10 s.0) (λ seconds.
    bind (cut closes s.1) (λ m.
    bind (six_in m.0) (λ micro.
    some (seconds * second + micro, m.1))))))

-- THE GRAMMAR OF A LINE without its end: (SECONDS.MICROSECONDS) NAME ID#DATA
unfoldable pub words_in : List ℕ → Option Words
words_in l = bind (time_in l) (λ t. bind (behind (blank ∷ []) t.1) (name_in t.0))

-- the line of can0 to can3
unfoldable pub digit_only : List ℕ → Option ℕ
digit_only [] = none
digit_only (c ∷ []) = only (within nought (nought + last_line) c) (c - nought)
digit_only (c ∷ d ∷ l) = none

unfoldable pub bus_in : List ℕ → Option ℕ
bus_in name = bind (behind can name) digit_only

-- what a line is: malformed, of an unknown name, or a logged frame
pub data Said : Type 0 where
  malformed : Said
  unknown : Said
  tells : Logged → Said

unfoldable pub logged : Words → ℕ → Logged
logged w line = record { time = w.time; line = line; wide = w.wide; id = w.id; bytes = w.bytes }

unfoldable pub named : Words → Option ℕ → Said
named w none = unknown
named w (some line) = tells (logged w line)

unfoldable pub said_by : Option Words → Said
said_by none = malformed
said_by (some w) = named w (bus_in w.name)

-- A LINE without its end
unfoldable pub line_in : List ℕ → Said
line_in l = said_by (words_in l)
