-- The files and the input that a command reads whole, each of at most 67,108,864 bytes.
use Rattle.std.specs.Prelude.{◌≡◌, ℕ, Bool, true, false, ◌<◌, ◌≤◌, ◌⊎◌, List, [], ◌∷◌, length, Option, Some, IfSome, IsSomeAnd}
use Rattle.jk_io.specs.Stored.{content_of}

-- The outside that a command may read: files, each a name and a content, and an input; of the real ones nothing is told.
pub record CommandOutside : Type 0 where
  pub files : Option (List (List ℕ × List ℕ))
  pub incoming : Option (List ℕ)

pub data Reading : Type 0 where
  -- the file of a name
  File : (name : List ℕ) → Reading
  -- all that the input has to come
  Input : Reading

-- A file is among what is read.
abbrev pub has_file : List Reading → Bool
has_file [] = false
has_file (File name ∷ readings) = true
has_file (Input ∷ readings) = has_file readings

-- The input is among what is read.
abbrev pub has_input : List Reading → Bool
has_input [] = false
has_input (File name ∷ readings) = has_input readings
has_input (Input ∷ readings) = true

-- The readings before the input.
abbrev pub before_input : List Reading → List Reading
before_input [] = []
before_input (File name ∷ readings) = File name ∷ before_input readings
before_input (Input ∷ readings) = []

-- The text is what is there, where that is told.
abbrev pub IsThere : CommandOutside → Reading → List ℕ → Type 0
IsThere outside (File name) text = IfSome outside.files (λ files. content_of files name ≡ Some text)
IsThere outside Input text = IfSome outside.incoming (λ incoming. text ≡ incoming)

-- The text that is there is read whole.
abbrev pub IsRead : CommandOutside → Reading → List ℕ → Type 0
IsRead outside reading text = IsThere outside reading text × (length text ≤ 67108864)

-- The text there has too many bytes, where that is told.
abbrev pub IsLong : CommandOutside → Reading → Type 0
IsLong outside (File name) = IfSome outside.files (λ files. IsSomeAnd (content_of files name) (λ text. 67108864 < length text))
IsLong outside Input = IfSome outside.incoming (λ incoming. 67108864 < length incoming)

-- Each is read whole, in this order.
abbrev pub AreRead : CommandOutside → List Reading → List (List ℕ) → Type 0
AreRead outside [] [] = Unit {0}
AreRead outside (reading ∷ readings) (text ∷ texts) = IsRead outside reading text × AreRead outside readings texts
AreRead outside readings texts = ⊥

-- The first that isn't read whole has too many bytes.
abbrev pub StopsLong : CommandOutside → List Reading → Type 0
StopsLong outside [] = ⊥
StopsLong outside (reading ∷ readings) =
    IsLong outside reading ⊎ ((text : List ℕ) × IsRead outside reading text × StopsLong outside readings)

-- `So` holds of these files, whatever the input.
abbrev pub OfFiles : Option (List (List ℕ × List ℕ)) → (CommandOutside → Type 0) → Type 0
OfFiles files So = (incoming : Option (List ℕ)) → So (record { files = files; incoming = incoming })
