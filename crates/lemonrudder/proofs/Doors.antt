-- A call through the door of a slot, by what it says of each object of the kind.
use Rattle.std.proofs.Common.{◌≡◌, ◌∙◌, ℕ, ℤ, MutBor, Option, Some, None, Result, subst, sym}
use Rattle.std.specs.Fn.{CalledAtMut, Mut}
use Rattle.lemonrudder.specs.declared.object.Object.{Object}
use Rattle.lemonrudder.specs.declared.object.Object.TheVariants.{Assembler, Catalogue, Client, Reference, Server}
use Rattle.lemonrudder.specs.declared.refusal.Refusal.{Refusal}
use Rattle.lemonrudder.specs.Assembled.{Assembled}
use Rattle.lemonrudder.specs.declared.calling.Calling.{Calling}
use Rattle.lemonrudder.specs.declared.cataloguing.Cataloguing.{Cataloguing}
use Rattle.lemonrudder.specs.declared.referring.Referring.{Referring}
use Rattle.lemonrudder.specs.declared.serving.Serving.{Serving}
use Rattle.lemonrudder.specs.Answers.{OnAssembler, OnCatalogue, OnClient, OnReference, OnServer}
use Rattle.lemonrudder.specs.Doors.{Calls, HasNoAssembler, HasNoCatalogue, HasNoClient, HasNoReference}
use Rattle.lemonrudder.specs.Refusals.{number_in}
use Rattle.lemonrudder.specs.Serves.{HasNoServer}

pub calls_catalogue : {F : Type 0} {g : Mut F (MutBor Cataloguing × Unit {0}) (Result ℕ Refusal × (MutBor Cataloguing × Unit {0}))} {f f' : F} (before after : Option Object) (answer : ℤ) (s t : Cataloguing) (r : Result ℕ Refusal)
    → before ≡ Some (Catalogue s) → after ≡ Some (Catalogue t) → answer ≡ number_in r → CalledAtMut g f s r f' t → Calls OnCatalogue HasNoCatalogue g f f' before after answer
calls_catalogue {g = g} {f = f} {f' = f'} before after answer s t r was is said called = record {
  does = subst (λ o. OnCatalogue (λ s t r. CalledAtMut g f s r f' t) o after answer) (sym was) (t, r, is, said, called);
  idle = λ none. absurd (subst HasNoCatalogue was none);
}

pub by_catalogue : {F : Type 0} {g : Mut F (MutBor Cataloguing × Unit {0}) (Result ℕ Refusal × (MutBor Cataloguing × Unit {0}))} {f f' : F} (P : Cataloguing → Cataloguing → Result ℕ Refusal → Type 0) (before after : Option Object) (answer given : ℤ)
    → Calls OnCatalogue HasNoCatalogue g f f' before after given → answer ≡ given → ((s t : Cataloguing) (r : Result ℕ Refusal) → CalledAtMut g f s r f' t → P s t r) → OnCatalogue P before after answer
by_catalogue P None after answer given on same by = (same ∙ on.does.0, on.does.1)
by_catalogue P (Some (Catalogue s)) after answer given on same by = let (t, r, left, said, did) = on.does in (t, r, left, same ∙ said, by s t r did)
by_catalogue P (Some (Server s)) after answer given on same by = (same ∙ on.does.0, on.does.1)
by_catalogue P (Some (Client s)) after answer given on same by = (same ∙ on.does.0, on.does.1)
by_catalogue P (Some (Assembler s)) after answer given on same by = (same ∙ on.does.0, on.does.1)
by_catalogue P (Some (Reference s)) after answer given on same by = (same ∙ on.does.0, on.does.1)

pub calls_server : {F : Type 0} {g : Mut F (MutBor Serving × Unit {0}) (Result ℕ Refusal × (MutBor Serving × Unit {0}))} {f f' : F} (before after : Option Object) (answer : ℤ) (s t : Serving) (r : Result ℕ Refusal)
    → before ≡ Some (Server s) → after ≡ Some (Server t) → answer ≡ number_in r → CalledAtMut g f s r f' t → Calls OnServer HasNoServer g f f' before after answer
calls_server {g = g} {f = f} {f' = f'} before after answer s t r was is said called = record {
  does = subst (λ o. OnServer (λ s t r. CalledAtMut g f s r f' t) o after answer) (sym was) (t, r, is, said, called);
  idle = λ none. absurd (subst HasNoServer was none);
}

pub by_server : {F : Type 0} {g : Mut F (MutBor Serving × Unit {0}) (Result ℕ Refusal × (MutBor Serving × Unit {0}))} {f f' : F} (P : Serving → Serving → Result ℕ Refusal → Type 0) (before after : Option Object) (answer given : ℤ)
    → Calls OnServer HasNoServer g f f' before after given → answer ≡ given → ((s t : Serving) (r : Result ℕ Refusal) → CalledAtMut g f s r f' t → P s t r) → OnServer P before after answer
by_server P None after answer given on same by = (same ∙ on.does.0, on.does.1)
by_server P (Some (Catalogue s)) after answer given on same by = (same ∙ on.does.0, on.does.1)
by_server P (Some (Server s)) after answer given on same by = let (t, r, left, said, did) = on.does in (t, r, left, same ∙ said, by s t r did)
by_server P (Some (Client s)) after answer given on same by = (same ∙ on.does.0, on.does.1)
by_server P (Some (Assembler s)) after answer given on same by = (same ∙ on.does.0, on.does.1)
by_server P (Some (Reference s)) after answer given on same by = (same ∙ on.does.0, on.does.1)

pub calls_client : {F : Type 0} {g : Mut F (MutBor Calling × Unit {0}) (Result ℕ Refusal × (MutBor Calling × Unit {0}))} {f f' : F} (before after : Option Object) (answer : ℤ) (s t : Calling) (r : Result ℕ Refusal)
    → before ≡ Some (Client s) → after ≡ Some (Client t) → answer ≡ number_in r → CalledAtMut g f s r f' t → Calls OnClient HasNoClient g f f' before after answer
calls_client {g = g} {f = f} {f' = f'} before after answer s t r was is said called = record {
  does = subst (λ o. OnClient (λ s t r. CalledAtMut g f s r f' t) o after answer) (sym was) (t, r, is, said, called);
  idle = λ none. absurd (subst HasNoClient was none);
}

pub by_client : {F : Type 0} {g : Mut F (MutBor Calling × Unit {0}) (Result ℕ Refusal × (MutBor Calling × Unit {0}))} {f f' : F} (P : Calling → Calling → Result ℕ Refusal → Type 0) (before after : Option Object) (answer given : ℤ)
    → Calls OnClient HasNoClient g f f' before after given → answer ≡ given → ((s t : Calling) (r : Result ℕ Refusal) → CalledAtMut g f s r f' t → P s t r) → OnClient P before after answer
by_client P None after answer given on same by = (same ∙ on.does.0, on.does.1)
by_client P (Some (Catalogue s)) after answer given on same by = (same ∙ on.does.0, on.does.1)
by_client P (Some (Server s)) after answer given on same by = (same ∙ on.does.0, on.does.1)
by_client P (Some (Client s)) after answer given on same by = let (t, r, left, said, did) = on.does in (t, r, left, same ∙ said, by s t r did)
by_client P (Some (Assembler s)) after answer given on same by = (same ∙ on.does.0, on.does.1)
by_client P (Some (Reference s)) after answer given on same by = (same ∙ on.does.0, on.does.1)

pub calls_assembler : {F : Type 0} {g : Mut F (MutBor Assembled × Unit {0}) (Result ℕ Refusal × (MutBor Assembled × Unit {0}))} {f f' : F} (before after : Option Object) (answer : ℤ) (s t : Assembled) (r : Result ℕ Refusal)
    → before ≡ Some (Assembler s) → after ≡ Some (Assembler t) → answer ≡ number_in r → CalledAtMut g f s r f' t → Calls OnAssembler HasNoAssembler g f f' before after answer
calls_assembler {g = g} {f = f} {f' = f'} before after answer s t r was is said called = record {
  does = subst (λ o. OnAssembler (λ s t r. CalledAtMut g f s r f' t) o after answer) (sym was) (t, r, is, said, called);
  idle = λ none. absurd (subst HasNoAssembler was none);
}

pub by_assembler : {F : Type 0} {g : Mut F (MutBor Assembled × Unit {0}) (Result ℕ Refusal × (MutBor Assembled × Unit {0}))} {f f' : F} (P : Assembled → Assembled → Result ℕ Refusal → Type 0) (before after : Option Object) (answer given : ℤ)
    → Calls OnAssembler HasNoAssembler g f f' before after given → answer ≡ given → ((s t : Assembled) (r : Result ℕ Refusal) → CalledAtMut g f s r f' t → P s t r) → OnAssembler P before after answer
by_assembler P None after answer given on same by = (same ∙ on.does.0, on.does.1)
by_assembler P (Some (Catalogue s)) after answer given on same by = (same ∙ on.does.0, on.does.1)
by_assembler P (Some (Server s)) after answer given on same by = (same ∙ on.does.0, on.does.1)
by_assembler P (Some (Client s)) after answer given on same by = (same ∙ on.does.0, on.does.1)
by_assembler P (Some (Assembler s)) after answer given on same by = let (t, r, left, said, did) = on.does in (t, r, left, same ∙ said, by s t r did)
by_assembler P (Some (Reference s)) after answer given on same by = (same ∙ on.does.0, on.does.1)

pub calls_reference : {F : Type 0} {g : Mut F (MutBor Referring × Unit {0}) (Result ℕ Refusal × (MutBor Referring × Unit {0}))} {f f' : F} (before after : Option Object) (answer : ℤ) (s t : Referring) (r : Result ℕ Refusal)
    → before ≡ Some (Reference s) → after ≡ Some (Reference t) → answer ≡ number_in r → CalledAtMut g f s r f' t → Calls OnReference HasNoReference g f f' before after answer
calls_reference {g = g} {f = f} {f' = f'} before after answer s t r was is said called = record {
  does = subst (λ o. OnReference (λ s t r. CalledAtMut g f s r f' t) o after answer) (sym was) (t, r, is, said, called);
  idle = λ none. absurd (subst HasNoReference was none);
}

pub by_reference : {F : Type 0} {g : Mut F (MutBor Referring × Unit {0}) (Result ℕ Refusal × (MutBor Referring × Unit {0}))} {f f' : F} (P : Referring → Referring → Result ℕ Refusal → Type 0) (before after : Option Object) (answer given : ℤ)
    → Calls OnReference HasNoReference g f f' before after given → answer ≡ given → ((s t : Referring) (r : Result ℕ Refusal) → CalledAtMut g f s r f' t → P s t r) → OnReference P before after answer
by_reference P None after answer given on same by = (same ∙ on.does.0, on.does.1)
by_reference P (Some (Catalogue s)) after answer given on same by = (same ∙ on.does.0, on.does.1)
by_reference P (Some (Server s)) after answer given on same by = (same ∙ on.does.0, on.does.1)
by_reference P (Some (Client s)) after answer given on same by = (same ∙ on.does.0, on.does.1)
by_reference P (Some (Assembler s)) after answer given on same by = (same ∙ on.does.0, on.does.1)
by_reference P (Some (Reference s)) after answer given on same by = let (t, r, left, said, did) = on.does in (t, r, left, same ∙ said, by s t r did)

-- what holds where no assembler is called, and where one is, holds
pub if_assembler : {F : Type 0} {g : Mut F (MutBor Assembled × Unit {0}) (Result ℕ Refusal × (MutBor Assembled × Unit {0}))} {f f' : F} (Q : Type 0) (before after : Option Object) (answer given : ℤ)
    → Calls OnAssembler HasNoAssembler g f f' before after given → answer ≡ given → (f' ≡ f → Q) → ((s t : Assembled) (r : Result ℕ Refusal) → answer ≡ number_in r → CalledAtMut g f s r f' t → Q) → Q
if_assembler Q None after answer given on same idle by = idle (on.idle tt)
if_assembler Q (Some (Catalogue s)) after answer given on same idle by = idle (on.idle tt)
if_assembler Q (Some (Server s)) after answer given on same idle by = idle (on.idle tt)
if_assembler Q (Some (Client s)) after answer given on same idle by = idle (on.idle tt)
if_assembler Q (Some (Assembler s)) after answer given on same idle by = let (t, r, left, said, did) = on.does in by s t r (same ∙ said) did
if_assembler Q (Some (Reference s)) after answer given on same idle by = idle (on.idle tt)
