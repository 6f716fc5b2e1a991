-- Which words are which order.
use Rattle.std.specs.Prelude.{ℕ, Bool, true, false, ◌&&◌, ◌||◌, nat_le, List, [], ◌∷◌, length, Option, Some, None, is_some, is_none, codes, option_map, option_and_then, unwrap_or, if◌then◌else◌}
use Rattle.std.specs.List.{list_all}
use Rattle.std.specs.Str.{bytes_eq, is_utf8}
use Rattle.jk_io.specs.Decimals.{decimal_of}
use Rattle.jk_io.specs.declared.client_limits.ClientLimits.{ClientLimits}
use Rattle.jk_cli.specs.declared.order.Order.{Order}
use Rattle.jk_cli.specs.declared.order.ServeOrder.{ServeOrder}
use Rattle.jk_cli.specs.declared.order.Order.TheVariants.{Play, Dry, Config, Match, Check, Log, Follow, Drill, Serve, Container, Stop, Demo}
use Rattle.jk_cli.specs.declared.name.CommandName.{CommandName}
use Rattle.jk_cli.specs.declared.name.CommandName.TheVariants as name
use Rattle.jk_cli.specs.Ranges.{most_requests, most_route_bytes, most_threads}
use Rattle.jk_cli.specs.Parts.{Part, flag_in, option_in, parts_of, places_in}
use Rattle.jk_cli.specs.Names.{name_of, may_stand, command_in}

infixl 10 ◌>>=◌
abbrev pub ◌>>=◌ : {A B : Type 0} → Option A → (A → Option B) → Option B
o >>= f = option_and_then f o

-- a decimal number of a range
abbrev pub number_in : (least most : ℕ) → List ℕ → Option ℕ
number_in least most text = decimal_of text >>= λ n. if nat_le least n && nat_le n most then Some n else None

-- the number that an option gives, where it stands
abbrev pub number_given : (least most : ℕ) → Option (List ℕ) → Option (Option ℕ)
number_given least most None = Some None
number_given least most (Some text) = option_map (λ n. Some n) (number_in least most text)

-- an option whose value is a number of a range
abbrev pub number_option : List ℕ → (least most : ℕ) → List Part → Option (Option ℕ)
number_option name least most parts = option_in name parts >>= number_given least most

-- the same, with what it is where it doesn't stand
abbrev pub number_or : List ℕ → (least most default : ℕ) → List Part → Option ℕ
number_or name least most default parts = option_map (λ given. unwrap_or given default) (number_option name least most parts)

-- 1 to 64
abbrev pub threads_of : List ℕ → Option ℕ
threads_of text = number_in 1 most_threads text

-- 1 to 1,000,000
abbrev pub requests_of : List ℕ → Option ℕ
requests_of text = number_in 1 most_requests text

-- any number of 64 bits
abbrev pub clients_of : List Part → Option (Option ℕ)
clients_of parts = number_option (codes "clients") 0 18446744073709551615 parts

-- the options of `serve`
pub record ServeOptions : Type 0 where
  pub clients : Option ℕ
  pub journal : Option (List ℕ)
  pub watch : Option ℕ
  pub idle : Option ℕ
  pub log : Option (List ℕ)
  pub format : Option (List ℕ)

-- `--idle` stands only beside `--watch`, and `--format` only beside `--log`
abbrev pub are_together : ServeOptions → Bool
are_together given = (is_none given.idle || is_some given.watch) && (is_none given.format || is_some given.log)

-- An idle link is looked for every 1 to 86400 seconds, and closed after 1 to 1000000 looks.
abbrev pub options_given : List Part → Option ServeOptions
options_given parts =
    clients_of parts >>= λ clients.
    option_in (codes "journal") parts >>= λ journal.
    number_option (codes "watch") 1 86400 parts >>= λ watch.
    number_option (codes "idle") 1 1000000 parts >>= λ idle.
    option_in (codes "log") parts >>= λ log.
    option_in (codes "format") parts >>= λ format.
    Some (record { clients = clients; journal = journal; watch = watch; idle = idle; log = log; format = format })

abbrev pub serve_options : List Part → Option ServeOptions
serve_options parts = options_given parts >>= (λ given. if are_together given then Some given else None)

-- The limits that a front sets its clients: seconds for a head and between two requests, bytes a second, and how many may wait.
-- 0 is without limit.
abbrev pub limits_given : List Part → Option ClientLimits
limits_given parts =
    number_or (codes "head") 0 86400 20 parts >>= λ head.
    number_or (codes "keep") 0 86400 60 parts >>= λ keep.
    number_or (codes "rate") 0 1000000000 500 parts >>= λ rate.
    number_or (codes "waiting") 0 1000000 10000 parts >>= λ waiting.
    Some (record { head = head; keep = keep; rate = rate; waiting = waiting })

-- what else `serve` is told: how long a journal gets, its clients' limits, its control socket, the seconds of its end
pub record FrontOptions : Type 0 where
  pub cut : Option ℕ
  pub limits : ClientLimits
  pub control : Option (List ℕ)
  pub grace : ℕ

abbrev pub front_options : List Part → Option FrontOptions
front_options parts =
    number_option (codes "cut") 1 65536 parts >>= λ cut.
    limits_given parts >>= λ limits.
    option_in (codes "control") parts >>= λ control.
    number_or (codes "grace") 0 86400 30 parts >>= λ grace.
    Some (record { cut = cut; limits = limits; control = control; grace = grace })

-- The commands with their words, each as it is written.

-- play
abbrev pub play_of : List (List ℕ) → Option Order
play_of [] = Some Play
play_of places = None

-- dry REQUEST REPLY, dry REQUEST REPLY WORKERS MAP
abbrev pub dry_of : List (List ℕ) → Option Order
dry_of (request ∷ reply ∷ []) = Some (Dry request reply None)
dry_of (request ∷ reply ∷ workers ∷ map ∷ []) = Some (Dry request reply (Some (workers, map)))
dry_of places = None

-- config WORKERS, config WORKERS MAP
abbrev pub config_of : List (List ℕ) → Option Order
config_of (workers ∷ []) = Some (Config workers None)
config_of (workers ∷ map ∷ []) = Some (Config workers (Some map))
config_of places = None

-- match WORKERS MAP, match -v WORKERS MAP
abbrev pub match_of : List Part → List (List ℕ) → Option Order
match_of parts (workers ∷ map ∷ []) = option_map (λ verbose. Match workers map verbose) (flag_in parts)
match_of parts places = None

-- check
abbrev pub check_of : List (List ℕ) → Option Order
check_of [] = Some Check
check_of places = None

-- log FORMAT REQUEST REPLY WORKERS MAP
abbrev pub log_of : List (List ℕ) → Option Order
log_of (format ∷ request ∷ reply ∷ workers ∷ map ∷ []) = Some (Log format request reply workers map)
log_of places = None

-- follow
abbrev pub follow_of : List (List ℕ) → Option Order
follow_of [] = Some Follow
follow_of places = None

-- whether the journal's text is printed, and whether the threads share passes
abbrev pub mode_named : List ℕ → Option (Bool × Bool)
mode_named word =
    if bytes_eq word (codes "journal") then Some (true, false)
    else (if bytes_eq word (codes "passes") then Some (false, true)
    else None)

abbrev pub mode_of : List (List ℕ) → Option (Bool × Bool)
mode_of [] = Some (false, false)
mode_of (word ∷ []) = mode_named word
mode_of (word ∷ next ∷ more) = None

-- drill SEED THREADS REQUESTS, or these and `journal` or `passes`
abbrev pub drill_of : List (List ℕ) → Option Order
drill_of (seed ∷ threads ∷ requests ∷ more) =
    mode_of more >>= λ mode.
    decimal_of seed >>= λ start.
    threads_of threads >>= λ count.
    requests_of requests >>= λ total.
    Some (Drill start count total mode.0 mode.1)
drill_of places = None

-- what `serve` is asked for by its words and its options
abbrev pub serve_order_of : (workers map address : List ℕ) → (threads : ℕ) → ServeOptions → FrontOptions → ServeOrder
serve_order_of workers map address threads given front = record {
  workers = workers;
  map = map;
  address = address;
  threads = threads;
  clients = given.clients;
  journal = given.journal;
  watch = given.watch;
  idle = given.idle;
  log = given.log;
  format = given.format;
  cut = front.cut;
  limits = front.limits;
  control = front.control;
  grace = front.grace;
}

abbrev pub serve_by : List Part → (workers map address threads : List ℕ) → Option Order
serve_by parts workers map address threads =
    threads_of threads >>= λ count.
    serve_options parts >>= λ given.
    front_options parts >>= λ front.
    Some (Serve (serve_order_of workers map address count given front))

-- serve WORKERS MAP ADDRESS THREADS
abbrev pub serve_of : List Part → List (List ℕ) → Option Order
serve_of parts (workers ∷ map ∷ address ∷ threads ∷ []) = serve_by parts workers map address threads
serve_of parts places = None

-- container ROUTE ADDRESS THREADS
abbrev pub container_of : List Part → List (List ℕ) → Option Order
container_of parts (route ∷ address ∷ threads ∷ []) =
    threads_of threads >>= λ count.
    clients_of parts >>= λ clients.
    if nat_le (length route) most_route_bytes then Some (Container route address count clients) else None
container_of parts places = None

-- stop PATH
abbrev pub stop_of : List (List ℕ) → Option Order
stop_of (path ∷ []) = Some (Stop path)
stop_of places = None

-- demo, demo ADDRESS
abbrev pub demo_of : List (List ℕ) → Option Order
demo_of [] = Some (Demo (codes "127.0.0.1:8080"))
demo_of (address ∷ []) = Some (Demo address)
demo_of places = None

abbrev pub order_by : CommandName → List Part → List (List ℕ) → Option Order
order_by name.Play parts places = play_of places
order_by name.Dry parts places = dry_of places
order_by name.Config parts places = config_of places
order_by name.Match parts places = match_of parts places
order_by name.Check parts places = check_of places
order_by name.Log parts places = log_of places
order_by name.Follow parts places = follow_of places
order_by name.Drill parts places = drill_of places
order_by name.Serve parts places = serve_of parts places
order_by name.Container parts places = container_of parts places
order_by name.Stop parts places = stop_of places
order_by name.Demo parts places = demo_of places

-- the parts after a command, where each may stand there
abbrev pub order_from : CommandName → List Part → Option Order
order_from command parts = if list_all (may_stand command) parts then order_by command parts (places_in parts) else None

-- the order that words are: a command's name, its words and its options, all of them UTF-8
abbrev pub order_of : List (List ℕ) → Option Order
order_of [] = None
order_of (word ∷ words) =
    if list_all is_utf8 (word ∷ words) then name_of word >>= (λ command. order_from command (parts_of words)) else None

-- the command that words are
abbrev pub command_of : List (List ℕ) → Option CommandName
command_of words = option_map command_in (order_of words)
