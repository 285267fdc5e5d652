use Rattle.std.proofs.Common.{◌≡◌, ℕ, ℤ, List, Option, None, Some, unwrap_or, sym, ap, subst, ◌∙◌, rules}
use Rattle.std.proofs.lemmas.Int.{to_z-of_z}
use mir.Syntax.{w32}
use mir.Val.{SFits, of_z, to_z}
use Rattle.std.specs.BTreeMap.{is_at}
use Rattle.std.specs.Map.{lookup}
use Rattle.std.specs.Option.{option_copied}
use Rattle.giop_tap.specs.declared.key.Key.{Key}
use Rattle.giop_tap.specs.Keys.{Kept, KeysStand, key_cmp}
use Rattle.giop_tap.specs.Pairing.{Named}
use Rattle.giop_tap.specs.Remembered.{number_in, number_or, pushed, roomy}
use Rattle.giop_tap.proofs.Keyed.{absent, found-first, found-stands, or-number, other-first, other-stands}
use Rattle.giop_tap.proofs.keys.Keyed.first_with.Goals as goal

-- with the client and the number as they were given
given : (ns : List Named) (client lent : List ℕ) (z back : ℤ) (o : Option ℕ) → client ≡ lent → back ≡ z → o ≡ number_in client back ns → number_in lent z ns ≡ o
given ns client lent z back o same is found = sym (found ∙ (λ i. number_in (same i) (is i) ns))

pub returns-in-Some-clause-first : goal.returns-in-Some-clause-first
returns-in-Some-clause-first c = λ s stands.
    let z : ℤ = c.args.retention_id in
    let fits : SFits w32 z = search rules in
    let key : Key = record { client_id = c.in_ok-from_slice.field-0; retention_id = to_z w32 (of_z w32 z) } in
    let old : KeysStand (record { most = c.self.inside.most; last = c.self.inside.last.entries; before = c.self.inside.before.entries; room = c.self.inside.room; has_before = c.self.inside.has_before; forgot = c.self.inside.forgot }) s = subst (λ (k : Kept). KeysStand k s) (sym c.self.view_is) stands in
    let there : lookup (is_at (key_cmp key)) c.self.inside.last.entries ≡ Some c.in-Some.first.now = sym c.get.ensures.value ∙ ap (λ o. option_copied o) c.in-Some.is in
    found-first c.args.client_id.now z s c.in-Some.first.now
    (given s.last c.in_ok-from_slice.field-0.items c.args.client_id.now z (to_z w32 (of_z w32 z)) (Some c.in-Some.first.now) c.in_ok-from_slice.ensures.items (to_z-of_z w32 z fits) (sym there ∙ old.last_are key))

pub returns-in-Some-clause-stands : goal.returns-in-Some-clause-stands
returns-in-Some-clause-stands c = λ s stands.
    let z : ℤ = c.args.retention_id in
    let fits : SFits w32 z = search rules in
    let key : Key = record { client_id = c.in_ok-from_slice.field-0; retention_id = to_z w32 (of_z w32 z) } in
    let old : KeysStand (record { most = c.self.inside.most; last = c.self.inside.last.entries; before = c.self.inside.before.entries; room = c.self.inside.room; has_before = c.self.inside.has_before; forgot = c.self.inside.forgot }) s = subst (λ (k : Kept). KeysStand k s) (sym c.self.view_is) stands in
    let there : lookup (is_at (key_cmp key)) c.self.inside.last.entries ≡ Some c.in-Some.first.now = sym c.get.ensures.value ∙ ap (λ o. option_copied o) c.in-Some.is in
    found-stands c.args.self.now c.args.self.now.most c.args.number c.args.client_id.now z s c.in-Some.first.now
    (given s.last c.in_ok-from_slice.field-0.items c.args.client_id.now z (to_z w32 (of_z w32 z)) (Some c.in-Some.first.now) c.in_ok-from_slice.ensures.items (to_z-of_z w32 z fits) (sym there ∙ old.last_are key)) stands

pub returns-clause-first : goal.returns-clause-first
returns-clause-first c = λ s stands.
    let z : ℤ = c.args.retention_id in
    let back : ℤ = to_z w32 (of_z w32 z) in
    let fits : SFits w32 z = search rules in
    let key : Key = record { client_id = c.in_ok-from_slice.field-0; retention_id = back } in
    let items : List ℕ = c.in_ok-from_slice.field-0.items in
    let client : List ℕ = c.args.client_id.now in
    let same : items ≡ client = c.in_ok-from_slice.ensures.items in
    let is : back ≡ z = to_z-of_z w32 z fits in
    let old : KeysStand (record { most = c.self.inside.most; last = c.self.inside.last.entries; before = c.self.inside.before.entries; room = c.self.inside.room; has_before = c.self.inside.has_before; forgot = c.self.inside.forgot }) s = subst (λ (k : Kept). KeysStand k s) (sym c.self.view_is) stands in
    let none : lookup (is_at (key_cmp key)) c.self.inside.last.entries ≡ None = search rules in
    let found : c.copied-first.result ≡ lookup (is_at (key_cmp key)) c.self.inside.before.entries = search rules in
    let not-last : number_in client z s.last ≡ None = given s.last items client z back None same is (sym none ∙ old.last_are key) in
    let before : number_in client z s.before ≡ c.copied-first.result = given s.before items client z back c.copied-first.result same is (found ∙ old.before_are key) in
    sym before ∙ other-first client z s not-last

pub returns-clause-stands : goal.returns-clause-stands
returns-clause-stands c = λ s stands.
    let z : ℤ = c.args.retention_id in
    let back : ℤ = to_z w32 (of_z w32 z) in
    let fits : SFits w32 z = search rules in
    let key : Key = record { client_id = c.in_ok-from_slice.field-0; retention_id = back } in
    let items : List ℕ = c.in_ok-from_slice.field-0.items in
    let client : List ℕ = c.args.client_id.now in
    let same : items ≡ client = c.in_ok-from_slice.ensures.items in
    let is : back ≡ z = to_z-of_z w32 z fits in
    let old : KeysStand (record { most = c.self.inside.most; last = c.self.inside.last.entries; before = c.self.inside.before.entries; room = c.self.inside.room; has_before = c.self.inside.has_before; forgot = c.self.inside.forgot }) s = subst (λ (k : Kept). KeysStand k s) (sym c.self.view_is) stands in
    let none : lookup (is_at (key_cmp key)) c.self.inside.last.entries ≡ None = search rules in
    let found : c.copied-first.result ≡ lookup (is_at (key_cmp key)) c.self.inside.before.entries = search rules in
    let not-last : number_in client z s.last ≡ None = given s.last items client z back None same is (sym none ∙ old.last_are key) in
    let before : number_in client z s.before ≡ c.copied-first.result = given s.before items client z back c.copied-first.result same is (found ∙ old.before_are key) in
    let most : ℕ = c.args.self.now.most in
    let number : ℕ = c.args.number in
    let room : KeysStand c.make_room.new.self (roomy most number s) = c.make_room.ensures.stands s stands in
    let none-there = absent most number items back s (sym (old.last_are key) ∙ none) in
    let got : c.unwrap_or.result ≡ unwrap_or c.copied-first.result number = search rules in
    let first : c.unwrap_or.result ≡ number_or number (number_in client z s.before) = got ∙ or-number c.copied-first.result number ∙ ap (λ (o : Option ℕ). number_or number o) (sym before) in
    let pushed-here : KeysStand c.push.new.self (pushed (record { client_id = items; retention_id = back; number = c.unwrap_or.result }) (roomy most number s)) = c.in_ok-push.ensures.stands (roomy most number s) room none-there in
    let named : record { client_id = items; retention_id = back; number = c.unwrap_or.result } ≡ record { client_id = client; retention_id = z; number = number_or number (number_in client z s.before) } =
    λ i. record { client_id = same i; retention_id = is i; number = first i } in
    other-stands c.push.new.self most number client z s not-last (subst (λ (n : Named). KeysStand c.push.new.self (pushed n (roomy most number s))) named pushed-here)
