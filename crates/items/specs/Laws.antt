-- Laws of items kind by kind. Only `but_places` and `moves_and_places` name them all. Assumes nothing.
use Rattle.std.specs.Prelude.{◌≡◌, refl, List, [], false, length}
use Rattle.kinds.specs.declared.Kind.{Kind}
use Rattle.kinds.specs.declared.Kind.TheVariants as kind
use Rattle.kinds.specs.Kinds.{count_of, same}
use Rattle.kinds.specs.Laws.{each_kind, count_by}
use Rattle.items.specs.declared.Move.{Move}
use Rattle.items.specs.declared.Place.{Place}
use Rattle.items.specs.Items.{Item}
use Rattle.items.specs.Lists.{Items, list_of, items_by, counts_of, with_places}

pub list_by : (f : (k : Kind) → List (Item k)) (k : Kind) → list_of k (items_by f) ≡ f k
list_by f = each_kind (λ k. list_of k (items_by f) ≡ f k) refl refl refl refl refl refl

-- items that are the same kind by kind are the same
pub items_same : {x y : Items} → ((k : Kind) → list_of k x ≡ list_of k y) → x ≡ y
items_same f = λ i. items_by (λ k. f k i)

pub counted_of : (x : Items) (k : Kind) → count_of (counts_of x) k ≡ length (list_of k x)
counted_of x = count_by (λ k. length (list_of k x))

-- items that differ from those of x in the places alone
pub but_places : {x y : Items} → ((k : Kind) → same kind.Place k ≡ false → list_of k y ≡ list_of k x) → y ≡ with_places x y.places
but_places {x} {y} f =
    λ i. record { states = f kind.State refl i; weights = f kind.Weights refl i; guards = f kind.Guard refl i; moves = f kind.Move refl i; sentences = f kind.Sentence refl i; places = y.places }

-- these moves and places and no other items: what is said of them alone is said of it, where the case is no longer at hand
abbrev pub moves_and_places : List Move → List Place → Items
moves_and_places ts ps = record { states = []; weights = []; guards = []; moves = ts; sentences = []; places = ps }
