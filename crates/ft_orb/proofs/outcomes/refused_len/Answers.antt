use Rattle.std.proofs.Common.{◌≡◌, ◌≤◌, ℕ, List, [], ◌∷◌, Option, Some, length, ap, subst, ◌∙◌}
use Rattle.cdr_core.specs.Value.{Values}
use Rattle.cdr_core.specs.View.{values_of}
use Rattle.cdr_core.specs.Writing.{octets_of_all}
use Rattle.cdr_core.specs.declared.order.Order.TheVariants.{Big}
use Rattle.cdr_core.specs.declared.values.Val.TheVariants.{Enum, ULong}
use Rattle.giop_core.specs.Written.{exception_body}
use Rattle.ft_log.specs.Exceptions.{completion_number, repository_id}
use Rattle.ft_objects.specs.Replies.{system_members}
use Rattle.ft_orb.proofs.Measured.{members}
use Rattle.ft_orb.proofs.outcomes.refused_len.Goals as goal

abbrev Measured : Option ℕ → List ℕ → Values → Type 0
Measured n id vs = length (octets_of_all Big (exception_body id vs) 24) ≤ 1048576 → n ≡ Some (length (octets_of_all Big (exception_body id vs) 24))

along : (n : Option ℕ) (id named : List ℕ) (vs ws : Values) → id ≡ named → vs ≡ ws → Measured n id vs → Measured n named ws
along n id named vs ws same are h = subst (λ (x : List ℕ). Measured n x ws) same (subst (λ (x : Values). Measured n id x) are h)

pub returns : goal.returns
returns c can =
    along c.raised_len.result c.repository_id.result.now (repository_id c.args.name) (values_of (ULong c.args.minor ∷ Enum c.number.result ∷ [])) (system_members c.args.minor (completion_number c.args.completion))
    c.repository_id.ensures.named (members c.args.minor c.number.result ∙ ap (system_members c.args.minor) c.number.ensures) c.raised_len.ensures can.1
