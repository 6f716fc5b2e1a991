-- How a format is spelled: a byte that stands as it is is itself, `%` is `%%`, and the rest are letters after `%`. Read first.
use Rattle.std.specs.Prelude.{ℕ, ◌≡◌, ◌==◌, ◌||◌, ◌&&◌, not, Bool, true, false, Option, Some, None, List, [], ◌∷◌, ◌++◌, length, codes, decimal, if◌then◌else◌}
use Rattle.std.specs.List.{All, flat_map}
use Rattle.std.specs.Option.{is_some}
use Rattle.request_log.specs.declared.format.Part.{Part}
use Rattle.request_log.specs.declared.format.Part.TheVariants as part
use Rattle.request_log.specs.declared.format_error.FormatError.{FormatError}
use Rattle.request_log.specs.declared.format_error.FormatError.TheVariants as wrong

abbrev pub spelling : Part → List ℕ
spelling (part.Text byte) = if byte == 37 then codes "%%" else byte ∷ []
spelling part.Method = codes "%m"
spelling part.Path = codes "%U"
spelling part.Query = codes "%q"
spelling part.Status = codes "%s"
spelling part.Body = codes "%b"
spelling part.Worker = codes "%w"
spelling part.First = codes "%r"
spelling part.Client = codes "%h"
spelling part.Moment = codes "%t"
spelling part.Millis = codes "%D"

-- CR or LF
abbrev pub is_end : ℕ → Bool
is_end byte = (byte == 10) || (byte == 13)

-- the part is no end of a line
abbrev pub IsUsable : Part → Type 0
IsUsable (part.Text byte) = is_end byte ≡ false
IsUsable _ = Unit {0}

-- the text spells these parts
pub record IsFormat (text : List ℕ) (parts : List Part) : Type 0 where
  pub spelled : text ≡ flat_map spelling parts
  pub usable : All IsUsable parts

-- what a letter after `%` stands for
abbrev pub letter_of : ℕ → Option Part
letter_of letter =
    if letter == 37 then Some (part.Text 37)
    else if letter == 109 then Some part.Method
    else if letter == 85 then Some part.Path
    else if letter == 113 then Some part.Query
    else if letter == 115 then Some part.Status
    else if letter == 98 then Some part.Body
    else if letter == 119 then Some part.Worker
    else if letter == 114 then Some part.First
    else if letter == 104 then Some part.Client
    else if letter == 116 then Some part.Moment
    else if letter == 68 then Some part.Millis
    else None

-- the text begins with the end of a line, or with a `%` that no letter follows
abbrev pub is_refused : List ℕ → Bool
is_refused [] = false
is_refused (byte ∷ []) = is_end byte || (byte == 37)
is_refused (byte ∷ next ∷ rest) = is_end byte || ((byte == 37) && not (is_some (letter_of next)))

-- Parts stand in front, and the text is refused at the place after them.
pub record IsRefusedFrom (text : List ℕ) (at : ℕ) : Type 0 where
  pub front : List Part
  pub rest : List ℕ
  pub whole : text ≡ flat_map spelling front ++ rest
  pub usable : All IsUsable front
  pub place : at ≡ length (flat_map spelling front)
  pub refused : is_refused rest ≡ true

-- the text is refused at this place
abbrev pub IsRefusedAt : List ℕ → FormatError → Type 0
IsRefusedAt text (wrong.BadFormat at) = IsRefusedFrom text at
IsRefusedAt text wrong.NoMemory = Unit {0}

-- what is printed where a format is refused at this place
abbrev pub refusal_line : (at : ℕ) → List ℕ
refusal_line at = codes "format refused at " ++ decimal at ++ codes "\n"
