-- The line of a member's time limits: those that its directives set.
use Rattle.std.specs.Prelude.{ℕ, Bool, List, [], ◌++◌, Option, Some, None, codes, decimal, if◌then◌else◌, ◌||◌}
use Rattle.std.specs.Option.{is_some}
use Rattle.site_config.specs.declared.limits.MemberLimits.{MemberLimits}
use Rattle.site_reports.specs.Words.{flag}

-- a directive and its value, where it is set
abbrev pub number_word : List ℕ → Option ℕ → List ℕ
number_word word None = []
number_word word (Some n) = word ++ decimal n

abbrev pub truth_word : List ℕ → Option Bool → List ℕ
truth_word word None = []
truth_word word (Some truth) = word ++ flag truth

-- what is waited for a member
abbrev pub wait_words : MemberLimits → List ℕ
wait_words l =
    number_word (codes " socket_connect_timeout=") l.socket_connect_timeout
    ++ number_word (codes " connect_timeout=") l.connect_timeout
    ++ number_word (codes " prepost_timeout=") l.prepost_timeout
    ++ number_word (codes " ping_timeout=") l.ping_timeout
    ++ number_word (codes " socket_timeout=") l.socket_timeout
    ++ number_word (codes " reply_timeout=") l.reply_timeout

-- what is done with its links besides
abbrev pub link_words : MemberLimits → List ℕ
link_words l =
    truth_word (codes " socket_keepalive=") l.socket_keepalive
    ++ number_word (codes " connection_pool_timeout=") l.connection_pool_timeout
    ++ number_word (codes " connection_ping_interval=") l.connection_ping_interval

-- whether a limit of a member is set
abbrev pub sets_wait : MemberLimits → Bool
sets_wait l = is_some l.socket_connect_timeout || (is_some l.connect_timeout || (is_some l.prepost_timeout
    || (is_some l.ping_timeout || (is_some l.socket_timeout || is_some l.reply_timeout))))

abbrev pub sets_some : MemberLimits → Bool
sets_some l = sets_wait l || (is_some l.socket_keepalive || (is_some l.connection_pool_timeout || is_some l.connection_ping_interval))

-- the limits of a member of this name; no line where none is set
abbrev pub limits_line : List ℕ → MemberLimits → List ℕ
limits_line name l = if sets_some l then codes "limits " ++ name ++ wait_words l ++ link_words l ++ codes "\n" else []
