-- The laws of the image's text, of the model. Document 01, The image.
pub mod TextsLaws
pub mod FitsLaws
pub mod RestoresLaws
pub mod ExactlyLaws
pub mod SizesLaws
pub mod EnginesLaws
pub mod LongestLaws
pub mod ReachedLaws
pub mod CharactersLaws
pub mod EdgesLaws
