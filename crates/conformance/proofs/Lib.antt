pub mod ItemTexts
