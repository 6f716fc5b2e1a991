-- The reply with a status worker's page.
use Rattle.std.specs.Prelude.{ℕ, ◌≡◌, ◌+◌, ◌++◌, Bool, not, List, [], ◌∷◌, length, map, Option, Some, None, slice_get, codes, decimal, if◌then◌else◌}
use Rattle.lb_book.specs.Desks.{DeskState, Shows}
use Rattle.http_out.specs.Dates.{date_field}
use Rattle.http_out.specs.declared.framing.RequestKind.{RequestKind}
use Rattle.site_config.specs.declared.balancer.Lb.{Lb}
use Rattle.site_config.specs.declared.config.Config.{Config}
use Rattle.site_config.specs.declared.config.Status.{Status}
use Rattle.site_config.specs.declared.endpoint.Endpoint.{Endpoint}
use Rattle.status_worker.specs.Mimes.{content_type, mime_of}
use Rattle.status_worker.specs.Shown.{shown}
use Rattle.status_worker.specs.declared.mime.Mime.{Mime}
use Rattle.status_worker.specs.declared.page.Address.{Address}
use Rattle.status_worker.specs.declared.page.BalancerType.{BalancerType}
use Rattle.status_worker.specs.declared.page.BalancerType.TheVariants as type_is
use Rattle.status_worker.specs.declared.page.PagePart.{PagePart}
use Rattle.status_worker.specs.declared.pages.Page.{Page}

-- an ajp13 worker that is listed itself stands for a balancer of its own
abbrev pub type_of : Lb → BalancerType
type_of lb = if lb.book.direct then type_is.Ajp13 else type_is.Lb

abbrev pub address_of : Endpoint → Address
address_of end = record { host = end.host; port = end.port }

-- the balancer as a look at it shows it
pub record IsSeen (desk : DeskState) (place : ℕ) (lb : Lb) (part : PagePart) : Type 0 where
  pub kind : part.type_ ≡ type_of lb
  pub name : part.name ≡ lb.name
  pub method : part.method ≡ lb.book.method
  pub view : Shows desk place part.view
  pub addresses : part.addresses ≡ map address_of lb.ends

-- these balancers, which stand from this place on, as looks at them show them
abbrev pub AreSeen : DeskState → (place : ℕ) → List Lb → List PagePart → Type 0
AreSeen desk place [] parts = parts ≡ []
AreSeen desk place (lb ∷ lbs) [] = ⊥
AreSeen desk place (lb ∷ lbs) (part ∷ parts) = IsSeen desk place lb part × AreSeen desk (place + 1) lbs parts

-- the balancers of a page: the one that the command names, or all
abbrev pub IsPageOf : Config → DeskState → Option ℕ → List PagePart → Type 0
IsPageOf cfg desk None parts = AreSeen desk 0 cfg.lbs parts
IsPageOf cfg desk (Some place) parts =
    (lb : Lb) × (part : PagePart) × (slice_get cfg.lbs place ≡ Some lb) × IsSeen desk place lb part × (parts ≡ part ∷ [])

-- the line that tells the client that no further request is read
abbrev pub last_line : (last : Bool) → List ℕ
last_line last = if last then codes "Connection: close\r\n" else []

-- the lines before a page's length, which tell how it is written
abbrev pub page_type : Mime → List ℕ
page_type mime = codes "HTTP/1.1 200 OK\r\nContent-Type: " ++ content_type mime ++ codes "\r\nContent-Length: "

-- the head of the reply with a page of that length; it tells the moment where one is told
abbrev pub page_head : Mime → (len : ℕ) → RequestKind → List ℕ
page_head mime len kind =
    page_type mime ++ decimal len ++ codes "\r\n" ++ date_field kind.date ++ last_line kind.last ++ codes "\r\n"

-- the part of a page that is sent: none for HEAD
abbrev pub sent_of : (head_only : Bool) → List ℕ → List ℕ
sent_of head_only page = if head_only then [] else page

abbrev pub page_reply : Mime → RequestKind → List ℕ → List ℕ
page_reply mime kind page = page_head mime (length page) kind ++ sent_of kind.head_only page

-- the page as its query asks for it; changes may be made unless the worker is read only
abbrev pub shown_for : Status → (query : Option (List ℕ)) → List PagePart → List ℕ
shown_for status query parts = shown (mime_of query) (not status.read_only) parts

-- the page of the balancers that were looked at, ready to be sent
abbrev pub IsPage : Config → Status → (query : Option (List ℕ)) → DeskState → Option ℕ → RequestKind → Page → Type 0
IsPage cfg status query desk only kind page =
    (parts : List PagePart) × IsPageOf cfg desk only parts
    × (page.reply ≡ page_reply (mime_of query) kind (shown_for status query parts))
    × (page.len ≡ length (sent_of kind.head_only (shown_for status query parts)))
