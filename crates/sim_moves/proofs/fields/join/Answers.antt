use Rattle.std.proofs.Common.{rules, ◌≡◌, ◌∙◌, ◌++◌, ◌∷◌, [], List, Vec, sym, ap, take}
use Rattle.std.specs.Prelude.{ℕ}
use Rattle.std.specs.declared.alloc.Global.{Global}
use Rattle.std.proofs.lemmas.List.{map-append, take_more}
use Rattle.sim_moves.specs.Columns.{texts}
use Rattle.sim_moves.specs.Fields.{cut}
use Rattle.sim_moves.specs.declared.fields.Bound.{Bound}
use Rattle.sim_moves.proofs.Bounds.{join_one, within_more}
use Rattle.sim_moves.proofs.fields.join.Goals as goal

pub loop-field-preserved : goal.loop-field-preserved
loop-field-preserved c =
    let fields = c.args.fields.now in
    let i = c.loop-field.field-index in
    let field : Vec ℕ Global = c.field-item.result in
    let xs = c.loop-field.text.items in
    let text = c.extend_from_slice.new.self.items in
    let bounds = c.loop-field.bounds.items in
    let b : Bound = record { begin = c.len-begin.result; end = c.len-end.result } in
    let is : text ≡ xs ++ field.items =
    c.in_ok-extend_from_slice.ensures.items
    ∙ ap (λ (l : List ℕ). xs ++ l) c.as_slice.ensures.value in
    record {
      within = rw c.in_ok-push.ensures.items
          (within_more _ _ bounds b (search rules) (search rules) (search rules)
          c.loop-field.invariant.within);
      joined = ap (cut text) c.in_ok-push.ensures.items
          ∙ join_one xs field.items text bounds b c.loop-field.invariant.within is (search rules)
          (search rules)
          ∙ ap (λ (l : List (List ℕ)). l ++ field.items ∷ []) c.loop-field.invariant.joined
          ∙ sym (ap texts (take_more fields i field c.loop-field-test.true
          ∙ ap (λ (f : Vec ℕ Global). take i fields ++ f ∷ []) (sym c.field-item.is))
          ∙ map-append (λ (f : Vec ℕ Global). f.items) (take i fields) (field ∷ []));
    }
