use Rattle.std.proofs.Common.{◌≡◌, List, [], ◌∷◌, ◌++◌, Vec, Global, map, sym, ap, ◌∙◌, subst₂}
use Rattle.std.proofs.lemmas.List.{map_push}
use Rattle.chains.specs.declared.Half.{Half}
use Rattle.chains.specs.Tracing.{Rests}
use Rattle.chains.proofs.Resting.{chain_taken}
use Rattle.chains.proofs.take_chain.Goals as goal

pub returns-in_ok-push-clause-rests : goal.returns-in_ok-push-clause-rests
returns-in_ok-push-clause-rests c =
    let lines = c.args.lines.now in
    let items : Vec Half Global → List Half = λ v. v.items in
    let before = map items c.args.chains.now.items in
    let path = c.follow.new.path.items in
    let e = c.in_ok-follow.ensures in
    let r = chain_taken lines c.args.used.now.items before c.args.path.now.items c.requires.rests path c.follow.new.used.items e.takes e.traced e.settled in
    let chain : c.in_ok-chain.chain.items ≡ path = c.in_ok-chain.ensures.tail in
    let chains : map items c.push.new.self.items ≡ before ++ path ∷ [] = ap (map items) c.in_ok-push.ensures.items ∙ map_push items c.args.chains.now.items c.in_ok-chain.chain ∙ ap (λ z. before ++ z ∷ []) chain in
    let none : c.split_off.new.self.items ≡ [] = c.in_ok-chain.ensures.items in
    subst₂ (λ x y. Rests lines c.follow.new.used.items x y) (sym none) (sym chains) r
