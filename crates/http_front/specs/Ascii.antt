-- The bytes that the grammar of heads names.
use Rattle.std.specs.Prelude.{ℕ}

-- LF, b'\n'
abbrev pub line_feed : ℕ
line_feed = 10

-- CR, b'\r'
abbrev pub carriage_return : ℕ
carriage_return = 13

-- b'%'
abbrev pub percent : ℕ
percent = 37

-- b','
abbrev pub comma : ℕ
comma = 44

-- b'.'
abbrev pub dot : ℕ
dot = 46

-- b'/'
abbrev pub slash : ℕ
slash = 47

-- b':'
abbrev pub colon : ℕ
colon = 58

-- b';'
abbrev pub semicolon : ℕ
semicolon = 59

-- b'?'
abbrev pub question : ℕ
question = 63

-- b'\\'
abbrev pub backslash : ℕ
backslash = 92

-- b']'
abbrev pub close_bracket : ℕ
close_bracket = 93
