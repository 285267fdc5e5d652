-- What the doors of a slot answer, by the call that they are handed, before and after.
use Rattle.std.specs.Prelude.{◌≡◌, ℕ, ℤ, Option, Some, Result}
use Rattle.std.specs.Borrow.{MutBor}
use Rattle.std.specs.Fn.{CalledAtMut, Mut}
use Rattle.lemonrudder.specs.declared.object.Object.{Object}
use Rattle.lemonrudder.specs.declared.object.Object.TheVariants.{Assembler, Catalogue, Client, Reference}
use Rattle.lemonrudder.specs.declared.refusal.Refusal.{Refusal}

-- a slot that is empty, or holds an object of another kind
abbrev pub HasNoCatalogue : Option Object → Type 0
HasNoCatalogue (Some (Catalogue s)) = ⊥
HasNoCatalogue _ = Unit {0}

abbrev pub HasNoClient : Option Object → Type 0
HasNoClient (Some (Client s)) = ⊥
HasNoClient _ = Unit {0}

abbrev pub HasNoAssembler : Option Object → Type 0
HasNoAssembler (Some (Assembler s)) = ⊥
HasNoAssembler _ = Unit {0}

abbrev pub HasNoReference : Option Object → Type 0
HasNoReference (Some (Reference s)) = ⊥
HasNoReference _ = Unit {0}

-- f was called once on the object of a kind, and is f' now; where another is, or none, it was not called
pub record Calls {F T : Type 0} (On : (T → T → Result ℕ Refusal → Type 0) → (before after : Option Object) → ℤ → Type 0) (HasNone : Option Object → Type 0) (g : Mut F (MutBor T × Unit {0}) (Result ℕ Refusal × (MutBor T × Unit {0}))) (f f' : F) (before after : Option Object) (answer : ℤ) : Type 0 where
  pub does : On (λ s t r. CalledAtMut g f s r f' t) before after answer
  pub idle : HasNone before → f' ≡ f
