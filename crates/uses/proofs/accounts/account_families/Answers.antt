use Rattle.std.proofs.Common.{[], ◌∙◌, ap, codes}
use mathlib.Core.Path.{ap₂}
use Rattle.ft_objects.specs.Catalogues.{Offer}
use Rattle.ft_objects.specs.Filling.{with_object, with_operation, with_raw_object}
use Rattle.ft_objects.specs.Interfaces.{Types, operation}
use Rattle.uses.proofs.accounts.account_families.Goals as goal

pub returns : goal.returns
returns c =
    c.in_ok-add_raw_object.ensures.ok
    ∙ (ap (with_raw_object []) c.in_ok-add_operation.ensures.ok
    ∙ ap₂ (λ (o : Offer) (t : Types). with_raw_object [] (with_operation (codes "acct/") (codes "balance") (operation t) o)) (c.in_ok-add_object.ensures.ok ∙ ap (with_object (codes "acct/")) c.new-families.ensures.offer) c.in-Ok.ensures)
