-- The values that a directive takes, in words.
use Rattle.std.specs.Prelude.{ℕ, List, [], codes}
use Rattle.site_config.specs.declared.directive.Directive.{Directive}
use Rattle.site_config.specs.declared.directive.Directive.TheVariants as directive

-- what the value of each directive must be; each value of the last eight is a good one
abbrev pub wanted_by : Directive → List ℕ
wanted_by directive.Kind = codes "the type must be ajp13, lb or status: "
wanted_by directive.Reference = codes "the reference must be worker.NAME: "
wanted_by directive.Port = codes "the value must be a number from 1 to 65535: "
wanted_by directive.Factor = codes "the value must be a number from 1 to 65535: "
wanted_by directive.Distance = codes "the value must be a number from 0 to 65535: "
wanted_by directive.Activation = codes "the activation must begin with A, D or S, as active, disabled and stopped do: "
wanted_by directive.PoolSize = codes "the value must be a number from 1 to 1024: "
wanted_by directive.Retries = codes "the value must be a number from 1 to 10: "
wanted_by directive.PacketSize = codes "the value must be a number from 8192 to 65536: "
wanted_by directive.PingMode = codes "the ping mode must have the letters C, P, I and A alone: "
wanted_by directive.RecoveryOptions = codes "the value must be a number from 0 to 31: "
wanted_by directive.FailOnStatus = codes "the value must be 1 to 64 statuses from 200 to 999, none both with and without a - before it: "
wanted_by directive.Method = codes "the method must begin with R, S, T or B, as Request, Session, Traffic and Busyness do: "
wanted_by directive.Sticky = codes "the value must be true, t, yes, y, on or 1, or false, f, no, n, off or 0: "
wanted_by directive.Force = codes "the value must be true, t, yes, y, on or 1, or false, f, no, n, off or 0: "
wanted_by directive.ReadOnly = codes "the value must be true, t, yes, y, on or 1, or false, f, no, n, off or 0: "
wanted_by directive.RecoverTime = codes "the value must be a number from 1 to 86400: "
wanted_by directive.DialTimeout = codes "the value must be milliseconds, a number from 0 to 86400000: "
wanted_by directive.ConnectTimeout = codes "the value must be milliseconds, a number from 0 to 86400000: "
wanted_by directive.PrepostTimeout = codes "the value must be milliseconds, a number from 0 to 86400000: "
wanted_by directive.PingTimeout = codes "the value must be milliseconds, a number from 0 to 86400000: "
wanted_by directive.ReplyTimeout = codes "the value must be milliseconds, a number from 0 to 86400000: "
wanted_by directive.SocketTimeout = codes "the value must be seconds, a number from 0 to 86400: "
wanted_by directive.PoolTimeout = codes "the value must be seconds, a number from 0 to 86400: "
wanted_by directive.PingInterval = codes "the value must be seconds, a number from 0 to 86400: "
wanted_by directive.Keepalive = codes "the value must be true, t, yes, y, on or 1, or false, f, no, n, off or 0: "
wanted_by directive.Cookie = codes "the value must not be empty: "
wanted_by directive.Path = codes "the value must not be empty: "
wanted_by d = []
