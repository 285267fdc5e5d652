-- What a bank offers whose accounts are a family: an object of its own, the accounts, and a default object.
use Rattle.std.specs.Prelude.{[], ◌∷◌, codes}
use Rattle.cdr_core.specs.Parts.{longlong}
use Rattle.cdr_core.specs.View.{forms}
use Rattle.ft_objects.specs.Catalogues.{Offer}
use Rattle.ft_objects.specs.Filling.{nothing, with_object, with_operation, with_raw_object}
use Rattle.ft_objects.specs.Interfaces.{Types, operation}

-- long long balance()
abbrev pub account_types : Types
account_types = record { arguments = forms []; results = forms (longlong ∷ []); raises = [] }

-- objects with keys of their own: the account of the house, which is raw
abbrev pub own_offer : Offer
own_offer = with_raw_object (codes "acct/house") nothing

-- families: accounts, whose one operation is `balance`, and the default object, which is raw
abbrev pub family_offers : Offer
family_offers = with_raw_object [] (with_operation (codes "acct/") (codes "balance") (operation account_types) (with_object (codes "acct/") nothing))
