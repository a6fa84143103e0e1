-- One more depth of a list of words.
use Rattle.std.proofs.Common.{◌≡◌, ℕ, zero, suc, ℤ, ◌+◌, ◌-◌, ◌<◌, List, [], ◌∷◌, ◌++◌, length, take, drop, Option, Result, Ok, Err, refl, sym, ap, ◌∙◌, arith, append_assoc}
use Rattle.grid_reader.specs.declared.fault.GridFault.{GridFault}
use Rattle.grid_reader.specs.declared.fault.GridFault.TheVariants as fault
use Rattle.grid_reader.specs.declared.sense.Sense.{Sense}
use Rattle.readings.specs.Readings.{◌>>=◌}
use Rattle.grid_reader.specs.Words.{Word}
use Rattle.grid_reader.specs.Marks.{Mark}
use Rattle.grid_reader.specs.Values.{depth_of, depths_of, just, node_depths}

-- the depths so far before those of the rest
abbrev pub with_front : List (Option ℤ) → Result (List (Option ℤ)) GridFault → Result (List (Option ℤ)) GridFault
with_front front (Ok ds) = Ok (front ++ ds)
with_front front (Err e) = Err e

module _ (sense : Sense) (nodata : Mark) where
  joined : (front : List (Option ℤ)) (d : Option ℤ) (r : Result (List (Option ℤ)) GridFault) → with_front front (r >>= (λ ds. Ok (d ∷ ds))) ≡ with_front (front ++ d ∷ []) r
  joined front d (Ok ds) = ap Ok (sym (append_assoc front (d ∷ []) ds))
  joined front d (Err e) = refl

  read_one : (front : List (Option ℤ)) (d : Option ℤ) (w : Word) (ws : List Word) (k : ℕ) → depth_of sense nodata w ≡ Ok d →
      with_front front (depths_of sense nodata (take (suc k) (w ∷ ws))) ≡ with_front (front ++ d ∷ []) (depths_of sense nodata (take k ws))
  read_one front d w ws k e =
      let r = depths_of sense nodata (take k ws) in
      ap (λ o. with_front front (o >>= (λ x. r >>= (λ ds. Ok (x ∷ ds))))) e ∙ joined front d r

  -- one word's depth joins the beginning
  pub one_more : (front : List (Option ℤ)) (d : Option ℤ) (w : Word) (us ws : List Word) (nodes found : ℕ) → us ≡ w ∷ ws → found < nodes → depth_of sense nodata w ≡ Ok d →
      with_front front (depths_of sense nodata (take (nodes - found) us)) ≡ with_front (front ++ d ∷ []) (depths_of sense nodata (take (nodes - (found + 1)) ws))
  one_more front d w us ws nodes found split more e =
      let size : nodes - found ≡ suc (nodes - (found + 1)) = omega arith in
      ap (λ vs. with_front front (depths_of sense nodata (take (nodes - found) vs))) split
      ∙ ap (λ n. with_front front (depths_of sense nodata (take n (w ∷ ws)))) size
      ∙ read_one front d w ws (nodes - (found + 1)) e

  -- one word's fault is that of all
  pub one_bad : (front : List (Option ℤ)) (e : GridFault) (w : Word) (us ws : List Word) (nodes found : ℕ) → us ≡ w ∷ ws → found < nodes → depth_of sense nodata w ≡ Err e →
      with_front front (depths_of sense nodata (take (nodes - found) us)) ≡ Err e
  one_bad front e w us ws nodes found split more bad =
      let size : nodes - found ≡ suc (nodes - (found + 1)) = omega arith in
      ap (λ vs. with_front front (depths_of sense nodata (take (nodes - found) vs))) split
      ∙ ap (λ n. with_front front (depths_of sense nodata (take n (w ∷ ws)))) size
      ∙ ap (λ o. with_front front (o >>= (λ x. depths_of sense nodata (take (nodes - (found + 1)) ws) >>= (λ ds. Ok (x ∷ ds))))) bad

  -- a fault of the depths is one of the nodes
  pub bad_nodes : (e : GridFault) (nodes : ℕ) (us : List Word) → depths_of sense nodata (take nodes us) ≡ Err e → node_depths sense nodata nodes us ≡ Err e
  bad_nodes e nodes us h = ap (λ r. r >>= (λ ds. just (length us) nodes (drop nodes us) ds)) h

  -- too few words
  pub short_nodes : (ds : List (Option ℤ)) (found nodes : ℕ) (us : List Word) → depths_of sense nodata (take nodes us) ≡ Ok ds → drop nodes us ≡ [] → length us ≡ found → found < nodes → node_depths sense nodata nodes us ≡ Err (fault.TooFew found)
  short_nodes ds found nodes us h rest count less =
      ap (λ r. r >>= (λ x. just (length us) nodes (drop nodes us) x)) h
      ∙ ap (λ vs. just (length us) nodes vs ds) rest
      ∙ ap (λ n. just n nodes [] ds) count
      ∙ grind arith

pub behind_one : (w : Word) (us ws : List Word) (nodes found : ℕ) → us ≡ w ∷ ws → found < nodes → drop (nodes - found) us ≡ drop (nodes - (found + 1)) ws
behind_one w us ws nodes found split more =
    let size : nodes - found ≡ suc (nodes - (found + 1)) = omega arith in
    ap (drop (nodes - found)) split ∙ ap (λ n. drop n (w ∷ ws)) size

pub none_behind : (n : ℕ) (us : List Word) → us ≡ [] → drop n us ≡ []
none_behind zero us h = h
none_behind (suc n) us h = ap (drop (suc n)) h

pub nothing_taken : (n : ℕ) (us : List Word) → us ≡ [] → take n us ≡ []
nothing_taken zero us h = refl
nothing_taken (suc n) us h = ap (take (suc n)) h
