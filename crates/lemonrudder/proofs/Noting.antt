-- What is noted of connections.
use Rattle.std.proofs.Common.{◌≡◌, ◌==◌, ◌∙◌, ℕ, Bool, true, false, is_some, Option, Some, None, ap, refl, subst, sym, arith}
use Rattle.std.proofs.lemmas.Grind.{common_steps}
use Rattle.std.specs.Option.{option_map_or}
use Rattle.ft_orb.specs.declared.ending.Ending.{Ending}
use Rattle.lemonrudder.specs.declared.connections.Connection.{Connection}
use Rattle.lemonrudder.specs.declared.connections.Connections.{Connections}
use Rattle.lemonrudder.specs.Connected.{AreAsNoted, AreOthersNoted, AreSame, IsAsNoted, Notes, OnlyDue, connection_at, ended_by_now, is_there, leaves_in, why_in}

-- two changes of what is due on a connection, and one of what is noted
pub only-noted : (c : ℕ) (k l m : Connections) → OnlyDue c k l → AreSame l m → OnlyDue c k m
only-noted c k l m x same = ((same c).0 ∙ x.0, λ q apart. ((same q).0 ∙ (x.1 q apart).0, (same q).1 ∙ (x.1 q apart).1))

pub noted-noted : (k l m : Connections) → AreAsNoted k l → AreAsNoted l m → AreAsNoted k m
noted-noted k l m a b q = ((b q).0 ∙ (a q).0, (b q).1 ∙ (a q).1)

-- why a connection ended is noted after what was noted stayed
pub notes-after : (c : ℕ) (why : Option Ending) (k l m : Connections) → is_there l c ≡ is_there k c → AreAsNoted k l → Notes c why l m → Notes c why k m
notes-after c why k l m there a h = (
  h.0 ∙ (a c).0,
  λ is. h.1 (there ∙ is) ∙ ap (ended_by_now why) (a c).1,
  λ q apart. ((h.2 q apart).0 ∙ (a q).0, (h.2 q apart).1 ∙ (a q).1),
)

-- .. as the engine says it
pub notes-why : (c : ℕ) (why now : Option Ending) (k l m : Connections) → why ≡ now → is_there l c ≡ is_there k c → AreAsNoted k l → Notes c why l m → Notes c now k m
notes-why c why now k l m is there a h = subst (λ e. Notes c e k m) is (notes-after c why k l m there a h)

-- of one that is not there nothing is noted
pub leaves-none : (k : Connections) (c : ℕ) → is_there k c ≡ false → leaves_in k c ≡ false
leaves-none k c none = by (connection_at k c) none
  where
    by : (o : Option Connection) → is_some o ≡ false → option_map_or (λ (x : Connection). x.leaving) o false ≡ false
    by None is = refl
    by (Some x) is = absurd cc

pub why-none : (k : Connections) (c : ℕ) → is_there k c ≡ false → why_in k c ≡ None
why-none k c none = by (connection_at k c) none
  where
    by : (o : Option Connection) → is_some o ≡ false → option_map_or (λ (x : Connection). x.why) o None ≡ None
    by None is = refl
    by (Some x) is = absurd cc

-- a connection was opened, and is not there again, unless it was before
pub undone-noted : (c : ℕ) (was : Bool) (k l m : Connections) → was ≡ is_there k c → AreAsNoted k l → AreOthersNoted c l m → (was ≡ false → is_there m c ≡ false) → (was ≡ true → AreAsNoted l m) → AreAsNoted k m
undone-noted c true k l m was opened undone gone same q = noted-noted k l m opened (same refl) q
undone-noted c false k l m was opened undone gone same q = by (c == q) refl
  where
    by : (b : Bool) → (c == q) ≡ b → IsAsNoted q k m
    by true is =
        let here : c ≡ q = grind (arith, common_steps) in
        subst (λ y. IsAsNoted y k m) here (leaves-none m c (gone refl) ∙ sym (leaves-none k c (sym was)), why-none m c (gone refl) ∙ sym (why-none k c (sym was)))
    by false is = ((undone q is).0 ∙ (opened q).0, (undone q is).1 ∙ (opened q).1)
