use Rattle.std.proofs.Common.{codes}
use mathlib.Core.Path.{ap₂}
use Rattle.ft_objects.specs.Catalogues.{Offer}
use Rattle.ft_objects.specs.Families.{family_offer}
use Rattle.uses.proofs.accounts.offer_accounts.Goals as goal

pub returns-clause-house : goal.returns-clause-house
returns-clause-house c = ap₂ (λ (own families : Offer). (family_offer own families).interface (codes "acct/house") (codes "audit")) c.in_ok-own_accounts.ensures c.in_ok-account_families.ensures

pub returns-clause-account : goal.returns-clause-account
returns-clause-account c = ap₂ (λ (own families : Offer). (family_offer own families).interface (codes "acct/10000") (codes "balance")) c.in_ok-own_accounts.ensures c.in_ok-account_families.ensures

pub returns-clause-none : goal.returns-clause-none
returns-clause-none c = ap₂ (λ (own families : Offer). (family_offer own families).interface (codes "acct/10000") (codes "audit")) c.in_ok-own_accounts.ensures c.in_ok-account_families.ensures

pub returns-clause-others : goal.returns-clause-others
returns-clause-others c = ap₂ (λ (own families : Offer). (family_offer own families).interface (codes "printer") (codes "print")) c.in_ok-own_accounts.ensures c.in_ok-account_families.ensures
