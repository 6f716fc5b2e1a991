-- The limits in force for a member, in milliseconds; 0 is without limit.
use Rattle.std.specs.Prelude.{ℕ, ◌*◌, Bool, false, Option, unwrap_or}
use Rattle.std.specs.Option.{option_or}
use Rattle.site_config.specs.declared.limits.MemberLimits.{MemberLimits}
use Rattle.site_config.specs.Bounds.{lesser, or_default}

-- a dial has 10 seconds where nothing else is said
abbrev pub dial_limit : MemberLimits → ℕ
dial_limit l = unwrap_or l.socket_connect_timeout 10000

-- each wait on a link; the directive counts seconds
abbrev pub wait_limit : MemberLimits → ℕ
wait_limit l = unwrap_or l.socket_timeout 0 * 1000

-- a CPong has 10 seconds where nothing else is said, and is never waited for without limit
abbrev pub first_pong_limit : MemberLimits → ℕ
first_pong_limit l = lesser (or_default l.connect_timeout (or_default l.ping_timeout 10000)) (wait_limit l)

abbrev pub each_pong_limit : MemberLimits → ℕ
each_pong_limit l = lesser (or_default l.prepost_timeout (or_default l.ping_timeout 10000)) (wait_limit l)

-- what a mount says of the container's next message goes before what the member says
abbrev pub reply_limit : Option ℕ → MemberLimits → ℕ
reply_limit mounted l = lesser (unwrap_or (option_or mounted l.reply_timeout) 0) (wait_limit l)

abbrev pub keeps_alive : MemberLimits → Bool
keeps_alive l = unwrap_or l.socket_keepalive false
