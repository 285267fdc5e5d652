-- That the ledger keeps a servant's promises. Nobody has to read these proofs; they stand here since `impl Servant` cites them.
use Rattle.std.specs.Prelude.{◌≡◌, ℤ, ◌+ℤ◌, true, List, [], ◌∷◌, ◌++◌, IsTrue}
use Rattle.std.proofs.Common.{rules, arith, refl, subst, sym, inl, length-append}
use Rattle.std.proofs.lemmas.Int.{ints}
use Rattle.std.proofs.lemmas.List.Folds.{list_all-append}
use Rattle.cdr_core.specs.Fitting.{Fits, FitsMembers}
use Rattle.cdr_core.specs.Form as form
use Rattle.cdr_core.specs.Parts.{longlong, longlong_value}
use Rattle.cdr_core.specs.Value.{Values}
use Rattle.ft_objects.specs.Accessors.{longlong_of, read_at}
use Rattle.ft_objects.specs.facts.Accessors.{longlong_fits}
use Rattle.ft_objects.specs.Objects.{Suits}
use Rattle.ft_objects.specs.facts.Objects.{bounded_suits, either_suits, object_is_servant}
use Rattle.ft_objects.specs.Servants.{IsServant}
use Rattle.ft_objects.specs.facts.Ranges.{test_by_range}
use Rattle.ft_objects.specs.facts.Results.{number_fits, sequence_fits}
use Rattle.ft_objects.specs.facts.Sizes.{clean_by}
use Rattle.uses.specs.Ledger.{can_post, entries_types, is_ledger, is_long_long, ledger, ledger_meaning, lists, post, post_types, posted, refused_id, settled, total_of, total_types}

pub total_of-append : (entries : List ℤ) (cents : ℤ) → total_of (entries ++ cents ∷ []) ≡ total_of entries +ℤ cents
total_of-append [] cents = omega (arith, ints)
total_of-append (first ∷ entries) cents = let e = total_of-append entries cents in omega (arith, ints, e)

-- what is posted leads to a state
pub posted_stays : (entries : List ℤ) (cents : ℤ) → IsTrue (is_ledger entries) → is_long_long cents ≡ true → can_post entries cents ≡ true → IsTrue (is_ledger (entries ++ cents ∷ []))
posted_stays entries cents h long can =
    grind (rules, total_of-append entries cents, list_all-append is_long_long entries (cents ∷ []), length-append entries (cents ∷ []), h, long, can)

total_fits : (entries : List ℤ) → IsTrue (is_ledger entries) → Fits longlong (longlong_value (total_of entries))
total_fits entries h = number_fits form.longlong (total_of entries) (search rules)

posted_suits : (entries : List ℤ) (cents : ℤ) → IsTrue (is_ledger entries) → is_long_long cents ≡ true → Suits is_ledger post_types (posted entries cents)
posted_suits entries cents h long =
    either_suits (can_post entries cents)
    (λ can. bounded_suits refl (posted_stays entries cents h long can) (number_fits form.longlong (total_of entries +ℤ cents) (search rules), tt))
    (λ e. bounded_suits refl h (clean_by refused_id refl, inl (refl, (total_fits entries h, tt))))

post_suits : (entries : List ℤ) (arguments : Values) → IsTrue (is_ledger entries) → FitsMembers post_types.arguments arguments → Suits is_ledger post_types (post entries (read_at longlong_of 0 arguments))
post_suits entries arguments h a =
    let cents = longlong_fits post_types.arguments arguments 0 refl a in
    subst (λ c. Suits is_ledger post_types (post entries c)) (sym cents.1) (posted_suits entries cents.0 h (test_by_range form.longlong cents.0 cents.2))

settle_suits : (entries : List ℤ) → IsTrue (is_ledger entries) → Suits is_ledger total_types (settled entries)
settle_suits entries h = bounded_suits refl (search rules) (total_fits entries h, tt)

entries_suit : (entries : List ℤ) → IsTrue (is_ledger entries) → Suits is_ledger entries_types (entries, lists entries)
entries_suit entries h = bounded_suits refl h (sequence_fits 1000 longlong longlong_value is_long_long (number_fits form.longlong) entries (search rules) (search rules) (search rules), tt)

pub ledger_is_servant : IsServant ledger_meaning
ledger_is_servant =
    object_is_servant ledger (
      record { valid = search rules; suits = post_suits },
      (
        record { valid = search rules; suits = λ entries arguments h a. settle_suits entries h },
        (
          record { valid = search rules; suits = λ entries arguments h a. entries_suit entries h },
          (record { valid = search rules; suits = λ entries arguments h a. bounded_suits refl h (total_fits entries h, tt) }, tt),
        ),
      ),
    )
