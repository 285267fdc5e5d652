use Rattle.std.proofs.Common.{◌≡◌, ◌∙◌, ◌||◌, ℕ, Bool, false, List, Some, Vec, Global, ap, bytes_eq, codes, option_map, sym}
use Rattle.std.specs.List.{list_any}
use Rattle.ft_objects.specs.Filling.{ids_in, names_id, texts}
use Rattle.ft_objects.proofs.Named.{list_any-map}
use Rattle.ft_objects.proofs.object.Object.is_a.Goals as goal

pub returns-else-eq : goal.returns-else-eq
returns-else-eq c =
    let named : ids_in c.args.self.now ≡ Some (texts c.in-Some.ids) = ap ids_in c.in-Named.is ∙ ap (option_map texts) c.in-Some.is in
    let other : bytes_eq c.args.id.now (codes "IDL:omg.org/CORBA/Object:1.0") ≡ false = sym c.eq.ensures ∙ c.if-eq.false in
    let among : c.is_among.result ≡ list_any (λ own. bytes_eq own c.args.id.now) (texts c.in-Some.ids) =
    c.is_among.ensures ∙ (ap (list_any (λ (own : Vec ℕ Global). bytes_eq own.items c.args.id.now)) c.deref.ensures.value ∙ sym (list_any-map (λ (own : List ℕ). bytes_eq own c.args.id.now) (λ (own : Vec ℕ Global). own.items) c.in-Some.ids.items)) in
    among ∙ (sym (ap (λ (b : Bool). b || list_any (λ own. bytes_eq own c.args.id.now) (texts c.in-Some.ids)) other) ∙ ap (λ ids. names_id ids c.args.id.now) (sym named))
