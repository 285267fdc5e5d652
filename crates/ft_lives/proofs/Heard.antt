-- Of a piece that is cut short a front of its arrivals remains.
use Rattle.std.proofs.Common.{◌≡◌, ℕ, max, nat_le, List, [], ◌++◌, length, take, drop, refl, sym, ap, ◌∙◌, append_assoc}
use Rattle.std.specs.Prelude.{filter_map}
use Rattle.std.proofs.Math.Seq.{drop-append_seam}
use Rattle.std.proofs.lemmas.List.{append-nil, take-append-drop}
use Rattle.std.proofs.lemmas.List.Elements.{filter_map-append}
use Rattle.giop_frames.specs.declared.limits.Limits.{Limits}
use Rattle.giop_link.specs.Hearing.{Incoming, heard, meaning_in}
use Rattle.giop_link.specs.Laws.{HearingGrows}
use Rattle.ft_orb.specs.ExactlyOnce.{Arrival}
use Rattle.ft_orb.specs.History.{Event, Gone, Line, Piece, Shut, Up, arrivals_in, arrivals_on, clock, completed, front_in, front_on, least, line, origin, shortened}
use Rattle.ft_orb.specs.Requests.{Origin, Wanted, arrival_of}

module _ (grow : HearingGrows meaning_in) (limits : Limits) where
  arriving : (c : Origin) (now : ℕ) (s p : List ℕ) (x : List Incoming) → heard limits (s ++ p) ≡ heard limits s ++ x → arrivals_in limits c now s p ≡ filter_map (λ m. arrival_of c now m) x
  unfolding arrivals_in
  arriving c now s p x h = ap (λ (l : List Incoming). filter_map (λ m. arrival_of c now m) (drop (length (heard limits s)) l)) h ∙ ap (λ (l : List Incoming). filter_map (λ m. arrival_of c now m) l) (drop-append_seam (heard limits s) x)

  more-arrive : (c : Origin) (now : ℕ) (s p q : List ℕ) → (more : List (Arrival Wanted)) × (arrivals_in limits c now s (p ++ q) ≡ arrivals_in limits c now s p ++ more)
  more-arrive c now s p q =
      let first = grow limits s p in
      let next = grow limits (s ++ p) q in
      let whole : heard limits (s ++ (p ++ q)) ≡ heard limits s ++ (first.0 ++ next.0) =
      ap (λ (l : List ℕ). heard limits l) (sym (append_assoc s p q)) ∙ next.1 ∙ ap (λ (l : List Incoming). l ++ next.0) first.1 ∙ append_assoc (heard limits s) first.0 next.0 in (
        filter_map (λ m. arrival_of c now m) next.0,
        arriving c now s (p ++ q) (first.0 ++ next.0) whole ∙ filter_map-append (λ m. arrival_of c now m) first.0 next.0
            ∙ ap (λ (l : List (Arrival Wanted)). l ++ filter_map (λ m. arrival_of c now m) next.0) (sym (arriving c now s p first.0 first.1)),
      )

  on-line : (c : Origin) (now : ℕ) (l : Line) (octets : List ℕ) (k : ℕ) → (more : List (Arrival Wanted)) × (arrivals_on limits c now l octets ≡ arrivals_on limits c now l (front_on limits c now l octets k) ++ more)
  unfolding front_in
  on-line c now Gone octets k = ([], refl)
  on-line c now Shut octets k = ([], refl)
  on-line c now (Up s) octets k =
      let n = least (λ n. nat_le k (length (arrivals_in limits c now s (take n octets)))) (length octets) in
      let m = more-arrive c now s (take n octets) (drop n octets) in
      (m.0, ap (λ (l : List ℕ). arrivals_in limits c now s l) (sym (take-append-drop n octets)) ∙ m.1)

  pub shortened-front : (past : List Event) (c moment : ℕ) (octets : List ℕ) (k : ℕ)
      → (more : List (Arrival Wanted)) × (completed limits past (Piece c moment octets) ≡ completed limits past (shortened limits past (Piece c moment octets) k) ++ more)
  shortened-front past c moment octets k = on-line (origin past c) (max (clock past) moment) (line past c) octets k
