-- The words after a command's name: words that are read by their place, and options.
use Rattle.std.specs.Prelude.{ℕ, ◌+◌, Bool, true, false, not, ◌==◌, ◌&&◌, nat_eq, List, [], ◌∷◌, take, drop, map, position, Option, Some, None, is_none, codes, if◌then◌else◌}
use Rattle.std.specs.List.{starts_with}
use Rattle.std.specs.Str.{bytes_eq}
use Rattle.jk_cli.specs.declared.part.Part as source
use Rattle.jk_cli.specs.declared.part.Part.TheVariants as read

-- a part of a command line
pub data Part : Type 0 where
  -- a word that is read by its place
  Place : (word : List ℕ) → Part
  -- an option with its value, `--name value` or `--name=value`
  Given : (name value : List ℕ) → Part
  -- the flag `-v`
  Verbose : Part
  -- another word with a leading `-`: `-x`, or an option without a value
  Stray : Part

-- a word with a leading `-`; `-` alone isn't one
abbrev pub is_dashed : List ℕ → Bool
is_dashed [] = false
is_dashed (first ∷ []) = false
is_dashed (first ∷ second ∷ more) = first == 45

-- `--`
abbrev pub is_end : List ℕ → Bool
is_end word = bytes_eq word (codes "--")

-- the first `=`
abbrev pub equals_in : List ℕ → Option ℕ
equals_in word = position (λ b. b == 61) word

-- `--name`, whose value is the next word
abbrev pub asks_value : List ℕ → Bool
asks_value word = starts_with nat_eq word (codes "--") && is_none (equals_in word)

-- the name and the value round the first `=`
abbrev pub given_at : Option ℕ → List ℕ → Part
given_at None text = Stray
given_at (Some place) text = Given (take place text) (drop (place + 1) text)

-- what a word is that takes no other: `--name=value`, `-v`, or a word without a leading `-`
abbrev pub alone : List ℕ → Part
alone word =
    if not (is_dashed word) then Place word
    else (if starts_with nat_eq word (codes "--") then given_at (equals_in (drop 2 word)) (drop 2 word)
    else (if bytes_eq word (codes "-v") then Verbose else Stray))

-- the parts of words; after `--` each word is read by its place
abbrev pub parts_of : List (List ℕ) → List Part
parts_of [] = []
parts_of (word ∷ []) = if is_end word then [] else alone word ∷ []
parts_of (word ∷ next ∷ more) =
    if is_end word then map Place (next ∷ more)
    else (if asks_value word && not (is_dashed next) then Given (drop 2 word) next ∷ parts_of more
    else alone word ∷ parts_of (next ∷ more))

-- the words that are read by their place, in order
abbrev pub places_in : List Part → List (List ℕ)
places_in [] = []
places_in (Place word ∷ parts) = word ∷ places_in parts
places_in (Given name value ∷ parts) = places_in parts
places_in (Verbose ∷ parts) = places_in parts
places_in (Stray ∷ parts) = places_in parts

-- nothing, where no word is left
abbrev pub end : List (List ℕ) → Option (Unit {0})
end [] = Some tt
end (word ∷ words) = None

-- the values that an option is given, in order
abbrev pub values_in : List ℕ → List Part → List (List ℕ)
values_in key [] = []
values_in key (Place word ∷ parts) = values_in key parts
values_in key (Given name value ∷ parts) = if bytes_eq name key then value ∷ values_in key parts else values_in key parts
values_in key (Verbose ∷ parts) = values_in key parts
values_in key (Stray ∷ parts) = values_in key parts

-- an option stands at most once: the value, or none; `None`: it stands twice
abbrev pub single : List (List ℕ) → Option (Option (List ℕ))
single [] = Some None
single (value ∷ []) = Some (Some value)
single (value ∷ next ∷ more) = None

-- the option of this name
abbrev pub option_in : List ℕ → List Part → Option (Option (List ℕ))
option_in key parts = single (values_in key parts)

-- how often the flag `-v` stands there
abbrev pub flags_in : List Part → ℕ
flags_in [] = 0
flags_in (Place word ∷ parts) = flags_in parts
flags_in (Given name value ∷ parts) = flags_in parts
flags_in (Verbose ∷ parts) = flags_in parts + 1
flags_in (Stray ∷ parts) = flags_in parts

-- whether the flag stands there; `None`: it stands twice
abbrev pub flag_by : ℕ → Option Bool
flag_by count = if count == 0 then Some false else (if count == 1 then Some true else None)

abbrev pub flag_in : List Part → Option Bool
flag_in parts = flag_by (flags_in parts)

-- the part that was read
abbrev pub part_of : source.Part → Part
part_of (read.Place word) = Place word.now
part_of (read.Given name value) = Given name.now value.now
part_of read.Verbose = Verbose
part_of read.Stray = Stray

-- the parts that are left, after `--` or before it
abbrev pub parts_left : Bool → List (List ℕ) → List Part
parts_left ended words = if ended then map Place words else parts_of words
