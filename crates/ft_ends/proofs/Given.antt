-- Completions, taken one by one.
use Rattle.std.proofs.Common.{◌≡◌, ℕ, ℤ, List, [], ◌∷◌, ◌++◌, drop, map, take, Option, Some, None, refl, sym, ap, ◌∙◌, subst, append_assoc}
use Rattle.std.specs.Option.{option_to_list}
use Rattle.std.proofs.lemmas.List.{append-nil, map-append}
use Rattle.ft_client.specs.declared.client.FtClient.{FtClient}
use Rattle.ft_client.specs.declared.ended.Ended.{Ended as CodeEnded}
use Rattle.ft_client.specs.Clients.{Client, Ended}
use Rattle.ft_client.specs.Ends.{completion_of, numbered as numbered_of}
use Rattle.ft_client.specs.Standing.{FtStands}
use Rattle.ft_ends.specs.Playing.{given_of, numbered}
use Rattle.ft_ends.specs.World.{with_client}

with-append : (k : ℕ) (xs ys : List (ℕ × Ended)) → with_client k (xs ++ ys) ≡ with_client k xs ++ with_client k ys
with-append k [] ys = refl
with-append k (x ∷ xs) ys = ap (λ (zs : List (ℕ × ℕ × Ended)). (k, x.0, x.1) ∷ zs) (with-append k xs ys)

-- of a client's completions these were given, and it stands for the rest
pub record IsGiven (k : ℕ) (c : Client) (client : FtClient) (old out : List (ℕ × ℤ × CodeEnded)) : Type 0 where
  pub done : List (ℕ × Ended)
  pub left : List (ℕ × Ended)
  pub all : c.completions ≡ done ++ left
  pub out_is : map given_of out ≡ map given_of old ++ map numbered (with_client k done)
  pub stands : FtStands client (record c { completions = left })

pub given-none : (k : ℕ) (c : Client) (client : FtClient) (old : List (ℕ × ℤ × CodeEnded)) → FtStands client c → IsGiven k c client old old
given-none k c client old stands = record { done = []; left = c.completions; all = refl; out_is = sym (append-nil (map given_of old)); stands = stands }

-- one more is given
given-by : (k : ℕ) (c : Client) (client : FtClient) (old out : List (ℕ × ℤ × CodeEnded)) (x : ℤ × CodeEnded) (done left : List (ℕ × Ended)) → c.completions ≡ done ++ left → map given_of out ≡ map given_of old ++ map numbered (with_client k done)
    → completion_of x ∷ [] ≡ map numbered_of (take 1 left) → FtStands client (record c { completions = drop 1 left }) → IsGiven k c client old (out ++ (k, x.0, x.1) ∷ [])
given-by k c client old out x done [] all out_is one stands = absurd cc
given-by k c client old out x done (y ∷ left) all out_is one stands =
    let head : completion_of x ≡ numbered_of y = cc in
    let given : given_of (k, x.0, x.1) ≡ numbered (k, y.0, y.1) = λ i. (k, (head i).0, (head i).1) in
    record {
      done = done ++ y ∷ [];
      left = left;
      all = all ∙ sym (append_assoc done (y ∷ []) left);
      out_is =
          map-append given_of out ((k, x.0, x.1) ∷ []) ∙ (λ i. out_is i ++ given i ∷ []) ∙ append_assoc (map given_of old) (map numbered (with_client k done)) (numbered (k, y.0, y.1) ∷ [])
          ∙ ap (λ zs. map given_of old ++ zs) (sym (ap (map numbered) (with-append k done (y ∷ [])) ∙ map-append numbered (with_client k done) ((k, y.0, y.1) ∷ [])));
      stands = stands;
    }

pub given-one : (k : ℕ) (c : Client) (client next : FtClient) (old out : List (ℕ × ℤ × CodeEnded)) (o : Option (ℤ × CodeEnded)) (x : ℤ × CodeEnded) → o ≡ Some x → (h : IsGiven k c client old out)
    → ((m : Client) → FtStands client m → map completion_of (option_to_list o) ≡ map numbered_of (take 1 m.completions)) → ((m : Client) → FtStands client m → FtStands next (record m { completions = drop 1 m.completions }))
    → IsGiven k c next old (out ++ (k, x.0, x.1) ∷ [])
given-one k c client next old out o x is h given stood =
    let m : Client = record c { completions = h.left } in
    let one = ap (λ (p : Option (ℤ × CodeEnded)). map completion_of (option_to_list p)) (sym is) ∙ given m h.stands in
    given-by k c next old out x h.done h.left h.all h.out_is one (stood m h.stands)

-- none are left
no-more : (left : List (ℕ × Ended)) → [] ≡ map numbered_of (take 1 left) → left ≡ []
no-more [] h = refl
no-more (x ∷ left) h = absurd cc

pub given-all : (k : ℕ) (c : Client) (client next : FtClient) (old out : List (ℕ × ℤ × CodeEnded)) (o : Option (ℤ × CodeEnded)) → o ≡ None → IsGiven k c client old out
    → ((m : Client) → FtStands client m → map completion_of (option_to_list o) ≡ map numbered_of (take 1 m.completions)) → ((m : Client) → FtStands client m → FtStands next (record m { completions = drop 1 m.completions }))
    → (map given_of out ≡ map given_of old ++ map numbered (with_client k c.completions)) × FtStands next (record c { completions = [] })
given-all k c client next old out o is h given stood =
    let m : Client = record c { completions = h.left } in
    let none = no-more h.left (ap (λ (p : Option (ℤ × CodeEnded)). map completion_of (option_to_list p)) (sym is) ∙ given m h.stands) in
    let done : c.completions ≡ h.done = h.all ∙ ap (λ (zs : List (ℕ × Ended)). h.done ++ zs) none ∙ append-nil h.done in (
      h.out_is ∙ ap (λ zs. map given_of old ++ map numbered (with_client k zs)) (sym done),
      subst (λ (zs : List (ℕ × Ended)). FtStands next (record c { completions = drop 1 zs })) none (stood m h.stands),
    )
