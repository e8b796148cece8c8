-- What an offer does to a window, and what it answers.
use Rattle.std.specs.Prelude.{◌≡◌, ℕ, true, false, List, ◌∷◌, length, Box}
use Rattle.std.specs.Global.{Global}
use Rattle.piece_item.specs.declared.item.Item.{Item}
use Rattle.play_window.specs.declared.window.Offer.{Offer}
use Rattle.play_window.specs.declared.window.Offer.TheVariants.{Husk, Later}
use Rattle.play_window.specs.Offers.{Offered, is_later}
use Rattle.play_window.specs.WindowState.{WindowState, IsWindowOf, IsNoEarlier}

-- the offer was taken in
pub record TakesIn (old : WindowState) (o : Offered) (husk : Box Item Global) (new : WindowState) : Type 0 where
  -- the item isn't of a later generation
  pub now : is_later o.generation o.item.kind ≡ false
  -- the box that is given has the window's samples
  pub husk_samples : length husk.value.samples.items ≡ old.samples
  -- the window stays as large
  pub depth : new.depth ≡ old.depth
  pub samples : new.samples ≡ old.samples
  -- it knows what was asked for
  pub generation : new.generation ≡ o.generation
  pub next : new.next ≡ o.next
  -- and of whatever offers it was the window, now it is that of one more
  pub offers : (offers : List Offered) → IsWindowOf offers old → IsWindowOf (o ∷ offers) new

-- the item is of a later generation: it comes back, and nothing changed
pub record GivesBack (old : WindowState) (o : Offered) (item back : Box Item Global) (new : WindowState) : Type 0 where
  pub later : is_later o.generation o.item.kind ≡ true
  pub item_back : back ≡ item
  pub same : new ≡ old

abbrev pub OfferAnswers : WindowState → Offered → Box Item Global → Offer → WindowState → Type 0
OfferAnswers old o item (Husk husk) new = TakesIn old o husk new
OfferAnswers old o item (Later back) new = GivesBack old o item back new

-- whatever it answers to an offer of block s of generation g
pub record GoesOn (old : WindowState) (g s : ℕ) (new : WindowState) : Type 0 where
  -- the window stays as large
  pub depth : new.depth ≡ old.depth
  pub samples : new.samples ≡ old.samples
  -- what the last offer asked for never falls, and isn't past what this one asks for
  pub since : IsNoEarlier old.generation old.next new.generation new.next
  pub until : IsNoEarlier new.generation new.next g s
