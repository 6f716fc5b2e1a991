-- The page in Prometheus' text format: families of figures, each after its lines of help and type.
use Rattle.std.specs.Prelude.{ℕ, ◌++◌, Bool, List, codes, decimal, if◌then◌else◌}
use Rattle.std.specs.List.{flat_map}
use Rattle.std.specs.Str.{bytes_eq}
use Rattle.lb_model.specs.declared.view.MemberRow.{MemberRow}
use Rattle.status_worker.specs.declared.metrics.Metric.{Metric}
use Rattle.status_worker.specs.declared.metrics.Metric.TheVariants as metric
use Rattle.status_worker.specs.declared.page.PagePart.{PagePart}
use Rattle.status_worker.specs.Marks.{label_text}
use Rattle.status_worker.specs.Words.{activation_word, state_word}

abbrev pub metric_name : Metric → List ℕ
metric_name metric.Busy = codes "jkd_member_busy"
metric_name metric.Load = codes "jkd_member_load"
metric_name metric.Factor = codes "jkd_member_factor"
metric_name metric.Distance = codes "jkd_member_distance"
metric_name metric.State = codes "jkd_member_state"
metric_name metric.Activation = codes "jkd_member_activation"

abbrev pub metric_help : Metric → List ℕ
metric_help metric.Busy = codes "Requests that the member has now."
metric_help metric.Load = codes "What the balancer's method weighs the member by."
metric_help metric.Factor = codes "The member's share of the balancer's work."
metric_help metric.Distance = codes "How far the member is; nearer ones are chosen first."
metric_help metric.State = codes "1 for the state that the member is in."
metric_help metric.Activation = codes "1 for the activation that the member has."

-- ---- a line: the family's name, labels in braces, the figure

abbrev pub label_pair : (name value : List ℕ) → List ℕ
label_pair name value = name ++ codes "=\"" ++ label_text value ++ codes "\""

abbrev pub member_labels : (lb : List ℕ) → MemberRow → List ℕ
member_labels lb row = label_pair (codes "{balancer") lb ++ label_pair (codes ",member") row.name

abbrev pub member_point : Metric → (lb : List ℕ) → MemberRow → ℕ → List ℕ
member_point m lb row value = metric_name m ++ member_labels lb row ++ codes "} " ++ decimal value ++ codes "\n"

abbrev pub one_if : Bool → List ℕ
one_if holds = if holds then codes "1\n" else codes "0\n"

-- ---- the figures of a member

-- 1 where the word is that of the member's state, else 0
abbrev pub state_point : (lb : List ℕ) → MemberRow → (word : List ℕ) → List ℕ
state_point lb row word =
    codes "jkd_member_state" ++ member_labels lb row ++ label_pair (codes ",state") word ++ codes "} "
    ++ one_if (bytes_eq (state_word row.state) word)

abbrev pub state_points : (lb : List ℕ) → MemberRow → List ℕ
state_points lb row =
    state_point lb row (codes "ok") ++ state_point lb row (codes "error") ++ state_point lb row (codes "recover")
    ++ state_point lb row (codes "probe")

abbrev pub activation_point : (lb : List ℕ) → MemberRow → (word : List ℕ) → List ℕ
activation_point lb row word =
    codes "jkd_member_activation" ++ member_labels lb row ++ label_pair (codes ",activation") word ++ codes "} "
    ++ one_if (bytes_eq (activation_word row.activation) word)

abbrev pub activation_points : (lb : List ℕ) → MemberRow → List ℕ
activation_points lb row =
    activation_point lb row (codes "active") ++ activation_point lb row (codes "disabled") ++ activation_point lb row (codes "stopped")

abbrev pub member_points : Metric → (lb : List ℕ) → MemberRow → List ℕ
member_points metric.Busy lb row = member_point metric.Busy lb row row.busy
member_points metric.Load lb row = member_point metric.Load lb row row.load
member_points metric.Factor lb row = member_point metric.Factor lb row row.factor
member_points metric.Distance lb row = member_point metric.Distance lb row row.distance
member_points metric.State lb row = state_points lb row
member_points metric.Activation lb row = activation_points lb row

abbrev pub part_points : Metric → PagePart → List ℕ
part_points m part = flat_map (member_points m part.name) part.view.rows

-- ---- a family

abbrev pub help_line : (name help : List ℕ) → List ℕ
help_line name help = codes "# HELP " ++ name ++ codes " " ++ help ++ codes "\n"

abbrev pub type_line : (name kind : List ℕ) → List ℕ
type_line name kind = codes "# TYPE " ++ name ++ codes " " ++ kind ++ codes "\n"

abbrev pub family_head : (name help kind : List ℕ) → List ℕ
family_head name help kind = help_line name help ++ type_line name kind

abbrev pub member_family : Metric → List PagePart → List ℕ
member_family m parts = family_head (metric_name m) (metric_help m) (codes "gauge") ++ flat_map (part_points m) parts

-- how many entries a balancer's journal has, which never falls
abbrev pub balancer_point : PagePart → List ℕ
balancer_point part =
    codes "jkd_balancer_entries_total" ++ label_pair (codes "{balancer") part.name ++ codes "} " ++ decimal part.view.next ++ codes "\n"

abbrev pub balancer_family : List PagePart → List ℕ
balancer_family parts =
    family_head (codes "jkd_balancer_entries_total") (codes "Entries of the balancer's journal.") (codes "counter")
    ++ flat_map balancer_point parts

-- ---- the page

abbrev pub metrics_page : List PagePart → List ℕ
metrics_page parts =
    balancer_family parts ++ member_family metric.Busy parts ++ member_family metric.Load parts ++ member_family metric.Factor parts
    ++ member_family metric.Distance parts ++ member_family metric.State parts ++ member_family metric.Activation parts
