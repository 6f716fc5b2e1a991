-- The words that ask for a text in place of a command: for which, and what `clap` is asked for it.
use Rattle.std.specs.Prelude.{◌≡◌, ℕ, Bool, ◌||◌, List, [], ◌∷◌, Option, Some, None, codes, if◌then◌else◌, option_map}
use Rattle.std.specs.Str.{bytes_eq}
use Rattle.jk_cli.specs.Names.{name_of}
use Rattle.plain_commands.specs.declared.answers.AskedText.{AskedText}
use Rattle.plain_commands.specs.declared.answers.AskedText.TheVariants as text

-- `--help` and `-h` ask for the help
abbrev pub asks_help : List ℕ → Bool
asks_help word = bytes_eq word (codes "--help") || bytes_eq word (codes "-h")

-- `--version` and `-V` ask for the version
abbrev pub asks_version : List ℕ → Bool
asks_version word = bytes_eq word (codes "--version") || bytes_eq word (codes "-V")

-- one word that asks for the help or for the version, or `help`
abbrev pub asked_alone : List ℕ → Option AskedText
asked_alone word =
    if asks_help word || bytes_eq word (codes "help") then Some text.Help
    else if asks_version word then Some text.Version
    else None

-- a command's name and then the wish for its help, or `help` and then the name
abbrev pub asked_of_command : (first second : List ℕ) → Option AskedText
asked_of_command first second =
    if asks_help second then option_map text.HelpOf (name_of first)
    else if bytes_eq first (codes "help") then option_map text.HelpOf (name_of second)
    else None

-- the text that is asked for; by no other words any
abbrev pub asked_by : List (List ℕ) → Option AskedText
asked_by [] = None
asked_by (word ∷ []) = asked_alone word
asked_by (first ∷ second ∷ []) = asked_of_command first second
asked_by (first ∷ second ∷ third ∷ more) = None

-- what `clap` is asked for a text: the program's name, of a command's help the command's name, and the option for it
abbrev pub IsLineFor : AskedText → List (List ℕ) → Type 0
IsLineFor text.Version line = line ≡ codes "jkd" ∷ codes "--version" ∷ []
IsLineFor text.Help line = line ≡ codes "jkd" ∷ codes "--help" ∷ []
IsLineFor (text.HelpOf name) line =
    (word : List ℕ) × (name_of word ≡ Some name) × (line ≡ codes "jkd" ∷ word ∷ codes "--help" ∷ [])
