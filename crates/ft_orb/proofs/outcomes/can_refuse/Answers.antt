use Rattle.std.proofs.Common.{◌≡◌, ◌↔◌, ◌≤◌, IsTrue, Bool, ℕ, List, [], ◌∷◌, length, ap, subst, ◌∙◌}
use Rattle.cdr_core.specs.Value.{Values}
use Rattle.cdr_core.specs.View.{values_of}
use Rattle.cdr_core.specs.Writing.{AreWritable, octets_of_all}
use Rattle.cdr_core.specs.declared.order.Order.TheVariants.{Big}
use Rattle.cdr_core.specs.declared.values.Val.TheVariants.{Enum, ULong}
use Rattle.giop_core.specs.Written.{exception_body}
use Rattle.ft_log.specs.Exceptions.{completion_number, repository_id}
use Rattle.ft_objects.specs.Replies.{system_members}
use Rattle.ft_orb.proofs.Measured.{members}
use Rattle.ft_orb.proofs.outcomes.can_refuse.Goals as goal

abbrev Can : Bool → List ℕ → Values → Type 0
Can b id vs = IsTrue b ↔ (AreWritable (exception_body id vs) × (length (octets_of_all Big (exception_body id vs) 24) ≤ 1048576))

along : (b : Bool) (id named : List ℕ) (vs ws : Values) → id ≡ named → vs ≡ ws → Can b id vs → Can b named ws
along b id named vs ws same are h = subst (λ (x : List ℕ). Can b x ws) same (subst (λ (x : Values). Can b id x) are h)

pub returns : goal.returns
returns c =
    along c.can_raise.result c.repository_id.result.now (repository_id c.args.name) (values_of (ULong c.args.minor ∷ Enum c.number.result ∷ [])) (system_members c.args.minor (completion_number c.args.completion))
    c.repository_id.ensures.named (members c.args.minor c.number.result ∙ ap (system_members c.args.minor) c.number.ensures) c.can_raise.ensures
