-- Features that are added.
use Rattle.std.proofs.Common.{List, All, sym, subst}
use Rattle.std.proofs.lemmas.List.Elements.{All-append}
use Rattle.chart_model.specs.declared.records.Feature.{Feature}
use Rattle.built_parts.specs.Contents.{Adds, FeatureContent, content_of}
use Rattle.parts_laws.proofs.Lists.{of_images}

-- what holds of all drafts holds of what features say, where features that say this are added to others of which it holds
pub all_adding : (P : FeatureContent → Type 0) (drafts : List FeatureContent) (old new : List Feature) → Adds drafts old new → All P drafts → All (λ f. P (content_of f)) old → All (λ f. P (content_of f)) new
all_adding P drafts old new a each before =
    subst (All (λ f. P (content_of f))) (sym a.behind) (All-append (λ f. P (content_of f)) old a.added before (of_images content_of P a.added drafts a.say each))
